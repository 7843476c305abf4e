-- The row of a journal.
use Rattle.store.specs.declared.journal.Journal.{Journal}
use Rattle.store.specs.Counts.{counts}
use Rattle.store.specs.JournalModel.{journal_model}
use Rattle.store.specs.StoreModel.{Bounded}
use Rattle.store.specs.RowChanges.{RowSound, tally_sound, row_bounded}

pub journal_sound : (j : Journal) → RowSound j.records.items (counts j.tally)
journal_sound j = record { room = j.room; past = j.past; coming = j.coming }

-- the law of the interface, for crates that use a journal
pub journal_bounded : (j : Journal) → Bounded (journal_model j)
journal_bounded j = row_bounded _ _ (tally_sound j.tally) (journal_sound j)
