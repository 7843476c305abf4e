use Rattle.std.proofs.Common.{sym, ap, ◌∙◌, subst}
use Rattle.store.specs.JournalRow.{journal_sound}
use Rattle.store.specs.RowChanges.{RowSound, owed, tally_sound, row_sealed, sealed_sound}
use Rattle.store.specs.Rows.{row_model}
use Rattle.store.proofs.journal.ops.JournalStore.seal.Goals as goal

pub invariant_of-self : goal.invariant_of-self
invariant_of-self c =
    let j = c.args.self.now in
    owed (subst (RowSound j.records.items) (sym c.seal.ensures) (sealed_sound _ _ (tally_sound j.tally) (journal_sound j)))

pub returns : goal.returns
returns c =
    let j = c.args.self.now in
    ap (row_model j.records.items) c.seal.ensures ∙ row_sealed _ _ (tally_sound j.tally) (journal_sound j)
