use Rattle.std.proofs.Common.{sym, refl, ◌∙◌}
use Rattle.words.specs.Encoded.{closing_value}
use Rattle.words.proofs.SpelledPages.{valid_has_words}
use Rattle.words.proofs.ReadsBack.{page_back}
use Rattle.words.proofs.encode.write_closing.Goals as goal

pub put_closing-requires : goal.put_closing-requires
put_closing-requires c = valid_has_words c.args.sites (closing_value c.args.closing) (sym c.is_valid.ensures ∙ c.if-not-is_valid.false)

pub returns-clause-reads_back : goal.returns-clause-reads_back
returns-clause-reads_back c =
    page_back c.args.sites (closing_value c.args.closing) c.args.out.now _ c.put_closing.result _
    (sym c.is_valid.ensures ∙ c.if-not-is_valid.false) refl c.put_closing.ensures.answer c.put_closing.ensures.after
