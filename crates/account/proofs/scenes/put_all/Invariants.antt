use Rattle.std.proofs.Common.{◌≡◌, ℕ, drop}
use Rattle.account.specs.Scenes.{written}
use Rattle.account.specs.SceneMaps.{InOrder, at_item}
use Rattle.account.proofs.scenes.put_all.Given as goal

-- The writes that are left make of each item what all of them made of it.
abbrev pub invariant-loop-write : goal.invariant-loop-write
invariant-loop-write l =
    InOrder l.scene
    × ((x : ℕ) → written l.version (drop l.write-index l.writes) x (at_item l.scene x) ≡ written l.version l.writes x (at_item l.initial.scene x))
