use Rattle.std.proofs.Common.{◌≡◌, ◌++◌, length}
use Rattle.few.specs.Lists.{few_items}
use Rattle.words.specs.Writes.{leading}
use Rattle.site.proofs.gather.gather.Given as goal

-- The writes so far, and what the rest begins with, are what the whole begins with.
abbrev pub invariant-loop-write : goal.invariant-loop-write
invariant-loop-write l = few_items l.writes ++ leading l.rest ≡ leading l.words

abbrev pub decreases-loop-write : goal.decreases-loop-write
decreases-loop-write l = length l.rest
