use Rattle.std.proofs.Common.{true, ◌∷◌, map, refl, ap, ◌∙◌, arith}
use Rattle.std.proofs.lemmas.List.{length-map}
use Rattle.words.specs.Bits.{word}
use Rattle.words.specs.Encoded.{put_after}
use Rattle.words.proofs.Spellings.{same_cons}
use Rattle.words.proofs.Puts.{put_three, room}
use Rattle.words.proofs.put.put_closing.Goals as goal

pub returns-clause-after : goal.returns-clause-after
returns-clause-after c =
    let ks = c.args.closing.known.now in
    let l = length-map ks (word 11) in
    let ws = c.make_word.result ∷ (c.make_word-2.result ∷ (c.make_word-3.result ∷ map (word 11) ks)) in
    put_three c.args.out.now (map (word 11) ks) _ _ _ _ _ (omega arith) l c.put_known.ensures
    ∙ (room ws c.args.out.now (omega arith)).1
    ∙ ap (λ us. put_after true us c.args.out.now) (same_cons c.make_word.ensures (same_cons c.make_word-2.ensures (same_cons c.make_word-3.ensures refl)))
