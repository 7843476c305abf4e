-- What chains hold.
use Rattle.std.specs.Prelude.{List, vec_items}
use Rattle.store.specs.declared.chains.Chains.{Chains}
use Rattle.store.specs.declared.records.Record.{Record}
use Rattle.store.specs.Counts.{counts}
use Rattle.store.specs.StoreModel.{StoreModel}
use Rattle.store.specs.Rows.{row_model}
use Rattle.store.specs.Slots.{laid}

-- The records in the order of sealing, then the staged ones in the order of staging.
abbrev pub chains_row : Chains → List Record
chains_row c = laid (vec_items c.records) (vec_items c.slots)

abbrev pub chains_model : Chains → StoreModel
chains_model c = row_model (chains_row c) (counts c.tally)
