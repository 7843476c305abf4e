use Rattle.std.proofs.Common.{◌≡◌, length, ap, ◌∙◌, arith, rules}
use Rattle.text.specs.Split.{is_blank, is_of_word, front, beyond, first_word, after_word}
use Rattle.text.proofs.SplitLaws.{words_step, part_within}
use Rattle.text.proofs.split.next_word.Goals as goal

pub returns : goal.returns
returns c =
    let text = c.args.text in
    let skipped = c.split_before.ensures in
    let split = c.split_before-2.ensures in
    let from = c.split_before.result.1 in
    let start = skipped.parts is_of_word (λ x r q k. search rules) in
    let parts = split.parts is_blank (λ x r q k. search rules) in
    let word : c.split_before-2.result.0.now ≡ first_word text.now = parts.0 ∙ ap (front is_blank) start.1 in
    let rest : c.split_before-2.result.1.now ≡ after_word text.now = parts.1 ∙ ap (beyond is_blank) start.1 in
    record {
      word = word;
      rest = rest;
      words = words_step text.now ∙ cc;
      shorter = omega (arith, skipped.whole, split.whole);
      word_part = part_within text.ref_ptr from.ref_ptr _ _ 0 _ skipped.rest_part split.front_part (omega (arith, ap length start.0));
      rest_part = part_within text.ref_ptr from.ref_ptr _ _ _ _ skipped.rest_part split.rest_part (omega (arith, skipped.whole, split.whole));
    }
