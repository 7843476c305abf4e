use Rattle.std.proofs.Common.{sym, refl, ◌∙◌}
use Rattle.words.specs.Encoded.{entry_value}
use Rattle.words.proofs.SpelledPages.{valid_has_words}
use Rattle.words.proofs.ReadsBack.{page_back}
use Rattle.words.proofs.encode.write_entry.Goals as goal

pub put_entry-requires : goal.put_entry-requires
put_entry-requires c = valid_has_words c.args.sites (entry_value c.args.entry) (sym c.is_valid.ensures ∙ c.if-not-is_valid.false)

pub returns-clause-reads_back : goal.returns-clause-reads_back
returns-clause-reads_back c =
    page_back c.args.sites (entry_value c.args.entry) c.args.out.now _ c.put_entry.result _
    (sym c.is_valid.ensures ∙ c.if-not-is_valid.false) refl c.put_entry.ensures.answer c.put_entry.ensures.after
