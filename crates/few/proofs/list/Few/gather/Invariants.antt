use Rattle.std.proofs.Common.{◌≡◌, length, take}
use Rattle.few.proofs.Gathering.{Gathering}
use Rattle.few.proofs.list.Few.gather.Given as goal

abbrev pub invariant-loop-i : goal.invariant-loop-i
invariant-loop-i g l = (length l.items ≡ g.row.N) × Gathering (goal.F-post g l.question) g.row.N l.i (take l.i l.items)
