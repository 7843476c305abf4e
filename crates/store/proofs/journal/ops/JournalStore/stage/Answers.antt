use Rattle.store.specs.JournalRow.{journal_sound}
use Rattle.store.specs.RowChanges.{owed, tally_sound, stage_row, stage_sound}
use Rattle.store.proofs.journal.ops.JournalStore.stage.Goals as goal

pub invariant_of-self-2 : goal.invariant_of-self-2
invariant_of-self-2 c =
    let j = c.args.self.now in
    owed (stage_sound _ _ (tally_sound j.tally) (journal_sound j) _ _ c.in_ok-place.ensures.place _ _)

pub returns-clause-after : goal.returns-clause-after
returns-clause-after c =
    let j = c.args.self.now in
    stage_row _ _ (tally_sound j.tally) (journal_sound j) _ _ c.in_ok-place.ensures.place _ _
