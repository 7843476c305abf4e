use Rattle.std.proofs.Common.{◌≡◌, ◌-◌, ◌<◌, length, take, drop, sym, ap, ◌∙◌, add_comm, arith, length-drop, length-take, rules}
use Rattle.std.proofs.lemmas.List.{take_rest, nil_from_length}
use Rattle.text.specs.Split.{is_newline, after_line}
use Rattle.text.proofs.SplitLaws.{lines_step, line_shorter, part_within}
use Rattle.text.proofs.split.next_line.Goals as goal

pub returns-in-len1-up : goal.returns-in-len1-up
returns-in-len1-up c =
    let text = c.args.text.now in
    let split = c.split_before.ensures in
    let from = c.split_before.result.1.now in
    let parts = split.parts is_newline (λ x r q k. search rules) in
    let rest : take (length from - 1) (drop 1 from) ≡ after_line text = take_rest from 1 ∙ ap (drop 1) parts.1 in
    let size : 0 < length from = search rules in
    record {
      line = parts.0;
      rest = rest;
      lines = λ h. lines_step text h ∙ cc;
      shorter = λ h. rw rest (line_shorter text h);
      line_part = split.front_part;
      rest_part = part_within c.args.text.ref_ptr c.split_before.result.1.ref_ptr _ _ 1 _ split.rest_part (ap (λ n. (c.split_before.result.1.ref_ptr.0, n)) (add_comm 1 c.split_before.result.1.ref_ptr.1)) (simp (length-take, length-drop) (omega (arith, split.whole)));
    }

pub returns-in-empty : goal.returns-in-empty
returns-in-empty c =
    let text = c.args.text.now in
    let split = c.split_before.ensures in
    let from = c.split_before.result.1.now in
    let parts = split.parts is_newline (λ x r q k. search rules) in
    let size : length from ≡ 0 = search rules in
    let rest : from ≡ after_line text = nil_from_length from size ∙ sym (ap (drop 1) (sym parts.1 ∙ nil_from_length from size)) in
    record {
      line = parts.0;
      rest = rest;
      lines = λ h. lines_step text h ∙ cc;
      shorter = λ h. omega arith;
      line_part = split.front_part;
      rest_part = split.rest_part ∙ ap (λ n. (c.args.text.ref_ptr.0, n)) (omega (arith, split.whole));
    }
