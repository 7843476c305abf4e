-- Known cases of a prune.
use Rattle.std.specs.Prelude.{◌≡◌, ℕ, List, [], ◌∷◌, pos}
use Rattle.words.specs.Writes.{a_write}
use Rattle.words.specs.declared.changes.Change.TheVariants.{Set, Remove}
use Rattle.words.specs.declared.changes.Write.{Write}
use Rattle.std.specs.List.{AllByRecursion}
use Rattle.store.specs.declared.records.Record.{Record}
use Rattle.store.specs.StoreModel.{StoreModel, a_record, fresh, staged_on, sealed_up, pruned_to}

-- One write as a version of its own.
abbrev pub put : StoreModel → Write → StoreModel
put m w = sealed_up (staged_on m w)

-- Item 1 is set to 10, then item 2 to 5, then item 1 is removed.
abbrev pub three_versions : StoreModel
three_versions = put (put (put (fresh 3) (a_write 1 (Set (pos 10)))) (a_write 2 (Set (pos 5)))) (a_write 1 Remove)

pub record Prune : Type 0 where
  pub to : ℕ
  pub leaves : List Record

abbrev pub a_prune : ℕ → List Record → Prune
a_prune h rs = record { to = h; leaves = rs }

abbrev pub known_prunes : List Prune
known_prunes =
    a_prune 2 (a_record 1 1 (Set (pos 10)) ∷ (a_record 2 2 (Set (pos 5)) ∷ (a_record 3 1 Remove ∷ [])))
    ∷ (a_prune 3 (a_record 2 2 (Set (pos 5)) ∷ (a_record 3 1 Remove ∷ []))
    ∷ [])

abbrev pub KnownPrunes : Type 0
KnownPrunes = AllByRecursion (λ p. (pruned_to p.to three_versions).sealed ≡ p.leaves) known_prunes
