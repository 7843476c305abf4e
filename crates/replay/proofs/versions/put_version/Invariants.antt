use Rattle.replay.proofs.Puts.{Putting}
use Rattle.replay.proofs.versions.put_version.Given as goal

abbrev pub invariant-loop-write : goal.invariant-loop-write
invariant-loop-write g l = Putting (g.S.Store.model l.initial.store) l.writes (g.S.Store.model l.store) l.write-index
