use Rattle.std.proofs.Common.{sym, refl, ◌∙◌}
use Rattle.words.specs.Encoded.{edit_value}
use Rattle.words.proofs.Spellings.{same_cons}
use Rattle.words.proofs.SpelledPages.{edit_fit}
use Rattle.words.proofs.ReadsBack.{message_back}
use Rattle.words.proofs.encode.write_edit.Goals as goal

pub put_with_writes-requires : goal.put_with_writes-requires
put_with_writes-requires c =
    edit_fit c.args.sites c.args.edit.site c.args.edit.ticket c.args.edit.snapshot c.args.edit.writes.now
    (sym c.is_valid.ensures ∙ c.if-not-is_valid.false)

pub returns-clause-reads_back : goal.returns-clause-reads_back
returns-clause-reads_back c =
    message_back c.args.sites (edit_value c.args.edit) c.args.out.now _ c.put_with_writes.result _
    (sym c.is_valid.ensures ∙ c.if-not-is_valid.false)
    (same_cons c.make_head-head.ensures (same_cons c.make_word-ticket.ensures (same_cons c.make_word-snapshot.ensures refl)))
    c.put_with_writes.ensures.answer c.put_with_writes.ensures.after
