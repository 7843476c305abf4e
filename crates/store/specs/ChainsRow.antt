-- The row of chains.
use Rattle.std.specs.Prelude.{◌≡◌, ℕ, List, length}
use Rattle.std.proofs.Common.{arith}
use Rattle.std.proofs.lemmas.List.{length-map}
use Rattle.store.specs.declared.chains.Chains.{Chains}
use Rattle.store.specs.declared.records.Record.{Record}
use Rattle.store.specs.ChainsModel.{chains_row, chains_model}
use Rattle.store.specs.Counts.{counts}
use Rattle.store.specs.Slots.{laid}
use Rattle.store.specs.StoreModel.{Bounded}
use Rattle.store.specs.RowChanges.{RowSound, tally_sound, row_bounded}

pub laid_long : (rs : List Record) (os : List ℕ) → length (laid rs os) ≡ length os
laid_long rs os = length-map os _

pub chains_sound : (s : Chains) → RowSound (chains_row s) (counts s.tally)
chains_sound s = record {
  room = let whole = s.whole in omega (arith, laid_long s.records.items s.slots.items);
  past = s.past;
  coming = s.coming;
}

-- the law of the interface, for crates that use chains
pub chains_bounded : (s : Chains) → Bounded (chains_model s)
chains_bounded s = row_bounded _ _ (tally_sound s.tally) (chains_sound s)
