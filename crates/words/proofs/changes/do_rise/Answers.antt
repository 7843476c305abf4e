use Rattle.std.proofs.Common.{rules, sym, ◌∙◌}
use Rattle.std.proofs.lemmas.List.Sorted.{answers_always}
use Rattle.words.proofs.Rising.{follows, rising_from_sorted}
use Rattle.words.proofs.changes.do_rise.Goals as goal

pub returns-then-is_in_range : goal.returns-then-is_in_range
returns-then-is_in_range c =
    rising_from_sorted c.args.writes.now c.in-Some.first.now c.is_sorted_by.result (search rules) (sym c.is_in_range.ensures ∙ c.if-is_in_range.true)
    (c.is_sorted_by.ensures.cases follows (answers_always _ _ _ (λ f a r g k. search rules)))
