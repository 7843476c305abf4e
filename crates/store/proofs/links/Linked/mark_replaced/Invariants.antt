use Rattle.std.proofs.Common.{◌≡◌, ◌++◌, take, drop}
use Rattle.store.specs.Rows.{replaced}
use Rattle.store.proofs.LinkedRow.{linked_row}
use Rattle.store.proofs.links.Linked.mark_replaced.Given as goal

abbrev pub invariant-loop-i : goal.invariant-loop-i
invariant-loop-i l = l.gone ≡ take l.i (replaced l.to (take l.self.count (linked_row l.self))) ++ drop l.i l.initial.gone
