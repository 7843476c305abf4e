use Rattle.std.proofs.Common.{◌≡◌, ℕ, ◌+◌, ◌-◌, length, take, drop, List, vec_items, sym, ap, ◌∙◌, rules, tests}
use Rattle.std.specs.Option.{option_map}
use Rattle.std.proofs.lemmas.List.{take_rest}
use Rattle.std.proofs.lemmas.Iterator.{YieldsList-from_slice}
use Rattle.std.proofs.lemmas.Iterator.Search.{position_from_yields_List}
use Rattle.account.specs.declared.certify.Kept.{Kept}
use Rattle.account.proofs.Walks.{clashes, clash_position}
use Rattle.account.proofs.accountant.Accountant.find_clash.Goals as goal

-- the commits from a place on
rest_of : (above xs cs : List Kept) (s : ℕ) → above ≡ take (length xs - s) (drop s xs) → xs ≡ cs → above ≡ drop s cs
rest_of above xs cs s e f = e ∙ take_rest xs s ∙ ap (drop s) f

pub returns : goal.returns
returns c =
    let s = c.args.snapshot in
    let ws = c.args.writes.now in
    let cs = vec_items c.args.self.now.commits in
    let above = c.iter.ensures.rest ∙ rest_of _ _ cs s c.in_ok-above.ensures.lookup.0.2 c.deref.ensures.value in
    let found = position_from_yields_List (clashes ws) _ _ c.position.result c.position.ensures.ran (YieldsList-from_slice (drop s cs) above) (λ x b q k. search (rules, tests)) in
    sym (clash_position ws s cs ∙ ap (option_map (λ (j : ℕ). s + j + 1)) (sym found ∙ c.in_ok-first.was))

pub returns-in_err-first : goal.returns-in_err-first
returns-in_err-first c =
    let s = c.args.snapshot in
    let ws = c.args.writes.now in
    let cs = vec_items c.args.self.now.commits in
    let above = c.iter.ensures.rest ∙ rest_of _ _ cs s c.in_ok-above.ensures.lookup.0.2 c.deref.ensures.value in
    let found = position_from_yields_List (clashes ws) _ _ c.position.result c.position.ensures.ran (YieldsList-from_slice (drop s cs) above) (λ x b q k. search (rules, tests)) in
    c.from_residual-in_err-first.ensures ∙ sym (clash_position ws s cs ∙ ap (option_map (λ (j : ℕ). s + j + 1)) (sym found ∙ c.in_err-first.was))
