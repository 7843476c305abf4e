use Rattle.std.proofs.Common.{◌≡◌, ℕ, map, drop, vec_items}
use Rattle.account.specs.Kept.{committed}
use Rattle.account.specs.Scenes.{applied, placed}
use Rattle.account.specs.SceneMaps.{InOrder, at_item}
use Rattle.account.proofs.accountant.Accountant.scene.Given as goal

-- The commits that are left make of each item what all of them leave of it.
abbrev pub invariant-loop-i : goal.invariant-loop-i
invariant-loop-i l = record {
  ordered : InOrder l.scene;
  values : (x : ℕ) → applied l.i (drop l.i (map committed (vec_items l.self.commits))) x (at_item l.scene x) ≡ placed (map committed (vec_items l.self.commits)) x;
}
