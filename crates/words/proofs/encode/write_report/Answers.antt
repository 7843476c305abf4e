use Rattle.std.proofs.Common.{[], ◌∷◌, Ok, sym, refl, ◌∙◌, arith}
use Rattle.words.specs.Encoded.{report_value}
use Rattle.words.proofs.Spellings.{same_cons}
use Rattle.words.proofs.Puts.{put_two, room}
use Rattle.words.proofs.ReadsBack.{message_back}
use Rattle.words.proofs.encode.write_report.Goals as goal

pub returns-clause-reads_back : goal.returns-clause-reads_back
returns-clause-reads_back c =
    let q = room (c.make_head.result ∷ (c.make_word.result ∷ [])) c.args.out.now (omega arith) in
    message_back c.args.sites (report_value c.args.report) c.args.out.now _ (Ok 2) _
    (sym c.is_valid.ensures ∙ c.if-not-is_valid.false)
    (same_cons c.make_head.ensures (same_cons c.make_word.ensures refl))
    q.0 (put_two c.args.out.now _ _ (omega arith) ∙ q.1)
