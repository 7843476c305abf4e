-- What a journal holds.
use Rattle.std.specs.Prelude.{vec_items}
use Rattle.store.specs.Counts.{counts}
use Rattle.store.specs.StoreModel.{StoreModel}
use Rattle.store.specs.Rows.{row_model}
use Rattle.store.specs.declared.journal.Journal.{Journal}

abbrev pub journal_model : Journal → StoreModel
journal_model j = row_model (vec_items j.records) (counts j.tally)
