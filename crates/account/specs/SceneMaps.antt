-- A scene held in a map from item to its value and version.
use Rattle.std.specs.Prelude.{◌≡◌, ℕ, cond, List, Option, ◌==◌}
use Rattle.std.specs.BTreeMap.{BTreeMap}
use Rattle.std.specs.BTreeMap.{IsOrdered, get}
use Rattle.words.specs.declared.changes.Write.{Write}
use Rattle.account.specs.declared.scenes.Placed.{Placed}
use Rattle.account.specs.Account.{Committed}
use Rattle.account.specs.Scenes.{placed_by, written, placed}
use Rattle.std.specs.Ordering.{nat_cmp}

module _ where
  -- The items rise.
  abbrev pub InOrder : BTreeMap ℕ Placed → Type 0
  InOrder m = IsOrdered nat_cmp m

  -- What the map has of an item.
  abbrev pub at_item : BTreeMap ℕ Placed → ℕ → Option Placed
  at_item m x = get nat_cmp m x

  -- One write of a version carried out: its item has what it says, and the others what they had.
  pub record Only (m n : BTreeMap ℕ Placed) (v : ℕ) (w : Write) : Type 0 where
    pub ordered : InOrder n
    pub values : (x : ℕ) → at_item n x ≡ cond (w.item == x) (placed_by v w.change) (at_item m x)

  -- All writes of a version carried out.
  pub record Overlaid (m n : BTreeMap ℕ Placed) (v : ℕ) (l : List Write) : Type 0 where
    pub ordered : InOrder n
    pub values : (x : ℕ) → at_item n x ≡ written v l x (at_item m x)

  -- The map has, of every item, what the commits leave of it.
  pub record Shows (m : BTreeMap ℕ Placed) (cs : List Committed) : Type 0 where
    pub ordered : InOrder m
    pub values : (x : ℕ) → at_item m x ≡ placed cs x
