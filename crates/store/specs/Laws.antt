-- What those who use a store may lean on, whatever its layout.
use Rattle.std.specs.Prelude.{◌≡◌, ℕ, ◌+◌, ◌<◌, ◌≤◌, Bool, false, cond, ◌||◌, List, [], ◌∷◌, ℤ, Option, ◌==◌}
use Rattle.words.specs.declared.changes.Write.{Write}
use Rattle.store.specs.declared.records.Record.{Record}
use Rattle.store.specs.StoreModel.{StoreModel, Bounded, value_of, read_at, staged_on, dropped, sealed_up, pruned_to}

-- The first list is the second without some of its records: none is added, altered or moved.
pub data Part : List Record → List Record → Type 0 where
  none : Part [] []
  kept : (r : Record) {xs ys : List Record} → Part xs ys → Part (r ∷ xs) (r ∷ ys)
  left_out : (r : Record) {xs ys : List Record} → Part xs ys → Part xs (r ∷ ys)

-- A prune to h leaves every read at h or later as it was, and only removes sealed records.
pub record Prunes (m : StoreModel) (h : ℕ) : Type 0 where
  pub reads : (i s : ℕ) → h ≤ s → read_at (pruned_to h m) i s ≡ read_at m i s
  pub records : Part (pruned_to h m).sealed m.sealed
  pub version : (pruned_to h m).version ≡ m.version
  pub capacity : (pruned_to h m).capacity ≡ m.capacity
  pub staged : (pruned_to h m).staged ≡ m.staged

abbrev pub PruneLaw : Type 0
PruneLaw = (m : StoreModel) (h : ℕ) → Prunes m h

-- What writes, one after another, make of the value of item i.
abbrev pub rewritten : ℕ → List Write → Option ℤ → Option ℤ
rewritten i [] before = before
rewritten i (w ∷ ws) before = rewritten i ws (cond (w.item == i) (value_of w.change) before)

-- Whether one of the writes is of item i.
abbrev pub writes_item : ℕ → List Write → Bool
writes_item i [] = false
writes_item i (w ∷ ws) = w.item == i || writes_item i ws

-- A seal leaves reads at V or earlier as they were. A read at V + 1 is what the staged writes make of the read at V,
-- and a read of an item that they do not write is as it was, at any version.
pub record Seals (m : StoreModel) : Type 0 where
  pub earlier : (i s : ℕ) → s ≤ m.version → read_at (sealed_up m) i s ≡ read_at m i s
  pub written : Bounded m → m.version < 268435455 → (i : ℕ) →
      read_at (sealed_up m) i (m.version + 1) ≡ rewritten i m.staged (read_at m i m.version)
  pub others : (i s : ℕ) → writes_item i m.staged ≡ false → read_at (sealed_up m) i s ≡ read_at m i s
  pub version : m.version < 268435455 → (sealed_up m).version ≡ m.version + 1
  pub staged : m.version < 268435455 → (sealed_up m).staged ≡ []
  pub capacity : (sealed_up m).capacity ≡ m.capacity

abbrev pub SealLaw : Type 0
SealLaw = (m : StoreModel) → Seals m

-- No read sees what is staged, and none sees beyond the version.
pub record Reads (m : StoreModel) : Type 0 where
  pub staging : (w : Write) (i s : ℕ) → read_at (staged_on m w) i s ≡ read_at m i s
  pub dropping : (i s : ℕ) → read_at (dropped m) i s ≡ read_at m i s
  pub beyond : Bounded m → (i s : ℕ) → m.version ≤ s → read_at m i s ≡ read_at m i m.version

abbrev pub ReadLaw : Type 0
ReadLaw = (m : StoreModel) → Reads m
