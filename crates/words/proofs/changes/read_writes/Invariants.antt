use Rattle.std.proofs.Common.{◌≡◌, ◌++◌, length, vec_items}
use Rattle.words.specs.Writes.{leading}
use Rattle.words.proofs.changes.read_writes.Given as goal

-- What is read, and what the rest begins with, is what the whole begins with.
abbrev pub invariant-loop-write : goal.invariant-loop-write
invariant-loop-write l = vec_items l.writes ++ leading l.rest ≡ leading l.words

abbrev pub decreases-loop-write : goal.decreases-loop-write
decreases-loop-write l = length l.rest
