use Rattle.std.proofs.Common.{length}
use Rattle.store.proofs.Compact.{Compacting}
use Rattle.store.proofs.moves.compact.Given as goal

abbrev pub invariant-loop-i : goal.invariant-loop-i
invariant-loop-i g l = Compacting l.gone (length l.gone) l.initial.items.items l.items.items l.end l.i
