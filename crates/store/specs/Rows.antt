-- A store in one row of memory: the sealed records in the order of sealing, then the staged ones.
use Rattle.std.specs.Prelude.{ℕ, zero, suc, Bool, cond, List, [], ◌∷◌, map, take, drop, pos, Some, None, Option, ◌==◌, slice_index_or}
use Rattle.words.specs.declared.changes.Change.TheVariants.{Set}
use Rattle.store.specs.declared.records.Record.{Record}
use Rattle.store.specs.Counts.{Counts}
use Rattle.store.specs.StoreModel.{StoreModel, a_record, a_store, undated, matches, some}

abbrev pub blank : Record
blank = a_record 0 0 (Set (pos 0))

-- The first records are sealed, and those after them are staged.
abbrev pub row_model : List Record → Counts → StoreModel
row_model rs q = a_store q.capacity q.version (take q.sealed rs) (map undated (take q.staged (drop q.sealed rs)))

-- Whether a record is of version v.
abbrev pub of_version : ℕ → Record → Bool
of_version v r = r.version == v

-- Places are counted from 1, so that 0 says that there is none.
-- The last place among the first n of a record that passes.
abbrev pub last_place : (Record → Bool) → List Record → ℕ → ℕ
last_place p rs zero = 0
last_place p rs (suc n) = cond (p (slice_index_or rs n blank)) (suc n) (last_place p rs n)

-- The record at a place.
abbrev pub at_place : List Record → ℕ → Option Record
at_place rs zero = None
at_place rs (suc i) = Some (slice_index_or rs i blank)

-- Which records a prune to h removes, and what is left without what is marked.
abbrev pub replaced : ℕ → List Record → List Bool
replaced h [] = []
replaced h (r ∷ rs) = some (matches r.item h) rs ∷ replaced h rs

abbrev pub unmarked : {X : Type 0} → List Bool → List X → List X
unmarked [] xs = xs
unmarked (g ∷ gs) [] = []
unmarked (g ∷ gs) (x ∷ xs) = cond g (unmarked gs xs) (x ∷ unmarked gs xs)
