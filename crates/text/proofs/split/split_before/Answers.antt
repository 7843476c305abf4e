use Rattle.std.proofs.Common.{◌≡◌, ◌+◌, true, false, cond, not, sym, refl, ap, ◌∙◌, add_comm, take, drop}
use Rattle.std.specs.List.{position_or_len}
use Rattle.std.proofs.lemmas.Iterator.{IsFirst-from_position, YieldsList-from_slice, index_from_first}
use Rattle.std.proofs.lemmas.List.{take_rest}
use Rattle.text.proofs.split.split_before.Goals as goal

pub returns-clause-parts : goal.returns-clause-parts
returns-clause-parts g c = λ p acts.
    let text = c.args.text.now in
    let first = IsFirst-from_position _ _ _ (λ x. p x ≡ true) (λ x. p x ≡ false) c.position.ensures.ran (YieldsList-from_slice text cc)
    (λ x q h. sym (acts x.now true q (record { shown = x; shows = refl; called = h })).1)
    (λ x q h. let a = acts x.now false q (record { shown = x; shows = refl; called = h }) in (a.0, sym a.1)) in
    let end : position_or_len p text ≡ c.unwrap_or-end.result =
    index_from_first (position_or_len p) (λ x. p x ≡ true) (λ x. p x ≡ false) refl
    (λ x xs e. ap (λ y. cond (not y) (1 + position_or_len p xs) 0) e)
    (λ x xs e. ap (λ y. cond (not y) (1 + position_or_len p xs) 0) e ∙ add_comm 1 (position_or_len p xs)) text _ first ∙ sym c.unwrap_or-end.ensures in
    (ap (λ n. take n text) (sym end), take_rest text _ ∙ ap (λ n. drop n text) (sym end))
