-- What a store holds, and what each of its functions answers and leaves.
use Rattle.std.specs.Prelude.{◌≡◌, ℕ, ◌+◌, ◌-◌, ◌≤◌, Bool, true, false, cond, ◌&&◌, List, [], ◌∷◌, ◌++◌, map, length, ℤ, Some, None, Option, ◌==◌, nat_le, nat_lt}
use Rattle.words.specs.Writes.{a_write}
use Rattle.words.specs.declared.changes.Change.{Change}
use Rattle.words.specs.declared.changes.Change.TheVariants.{Set, Remove}
use Rattle.words.specs.declared.changes.Write.{Write}
use Rattle.store.specs.declared.records.Record.{Record}

abbrev pub a_record : ℕ → ℕ → Change → Record
a_record v i x = record { version = v; item = i; change = x }

-- A write as a record of version v, and a record without its version.
abbrev pub dated : ℕ → Write → Record
dated v w = a_record v w.item w.change

abbrev pub undated : Record → Write
undated r = a_write r.item r.change

-- The sealed records in the order of sealing, and the staged writes in the order of staging.
pub record StoreModel : Type 0 where
  pub capacity : ℕ
  pub version : ℕ
  pub sealed : List Record
  pub staged : List Write

abbrev pub a_store : ℕ → ℕ → List Record → List Write → StoreModel
a_store c v rs ws = record { capacity = c; version = v; sealed = rs; staged = ws }

-- A store that has just been made.
abbrev pub fresh : ℕ → StoreModel
fresh c = a_store c 0 [] []

-- Whether a record is of item i, with a version of at most s.
abbrev pub matches : ℕ → ℕ → Record → Bool
matches i s r = r.item == i && nat_le r.version s

abbrev pub or_else : Option Record → Option Record → Option Record
or_else None d = d
or_else (Some r) d = Some r

-- The last record that passes.
abbrev pub latest : (Record → Bool) → List Record → Option Record
latest p [] = None
latest p (r ∷ rs) = or_else (latest p rs) (cond (p r) (Some r) None)

-- A removal leaves no value, and neither does no record.
abbrev pub value_of : Change → Option ℤ
value_of (Set x) = Some x
value_of Remove = None

abbrev pub value_in : Option Record → Option ℤ
value_in None = None
value_in (Some r) = value_of r.change

-- The value of item i as version s has it.
abbrev pub read_at : StoreModel → ℕ → ℕ → Option ℤ
read_at m i s = value_in (latest (matches i s) m.sealed)

-- How many records can still be staged.
abbrev pub space : StoreModel → ℕ
space m = m.capacity - (length m.sealed + length m.staged)

abbrev pub has_space : StoreModel → Bool
has_space m = nat_lt 0 (space m)

abbrev pub with_staged : StoreModel → List Write → StoreModel
with_staged m ws = a_store m.capacity m.version m.sealed ws

-- What a stage leaves.
abbrev pub staged_on : StoreModel → Write → StoreModel
staged_on m w = cond (has_space m) (with_staged m (m.staged ++ (w ∷ []))) m

-- What a drop of the staged writes leaves.
abbrev pub dropped : StoreModel → StoreModel
dropped m = with_staged m []

-- What a seal leaves: the staged writes are the next version, unless there can be none.
abbrev pub next_version : StoreModel → StoreModel
next_version m =
    a_store m.capacity (m.version + 1) (m.sealed ++ map (dated (m.version + 1)) m.staged) []

abbrev pub can_seal : StoreModel → Bool
can_seal m = nat_lt m.version 268435455

abbrev pub sealed_up : StoreModel → StoreModel
sealed_up m = cond (can_seal m) (next_version m) m

-- Whether some record passes, and whether each one does.
abbrev pub some : (Record → Bool) → List Record → Bool
some p [] = false
some p (r ∷ rs) = cond (p r) true (some p rs)

abbrev pub every : (Record → Bool) → List Record → Bool
every p [] = true
every p (r ∷ rs) = p r && every p rs

-- The records without each one that a later record of its item, of version at most h, replaces.
abbrev pub pruned : ℕ → List Record → List Record
pruned h [] = []
pruned h (r ∷ rs) = cond (some (matches r.item h) rs) (pruned h rs) (r ∷ pruned h rs)

-- What a prune to h leaves.
abbrev pub pruned_to : ℕ → StoreModel → StoreModel
pruned_to h m = a_store m.capacity m.version (pruned h m.sealed) m.staged

abbrev pub at_most : ℕ → Record → Bool
at_most v r = nat_le r.version v

-- What holds of every store: its numbers are bounded, and no sealed record is of a version above its own.
pub record Bounded (m : StoreModel) : Type 0 where
  pub capacity_bound : m.capacity ≤ 268435455
  pub version_bound : m.version ≤ 268435455
  pub fits : length m.sealed + length m.staged ≤ m.capacity
  pub past : every (at_most m.version) m.sealed ≡ true
