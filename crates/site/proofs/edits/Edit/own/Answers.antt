use Rattle.std.proofs.Common.{rules, tests, sym, ap, ◌∙◌}
use Rattle.std.specs.Option.{option_map}
use Rattle.std.proofs.lemmas.Iterator.{YieldsList-from_slice}
use Rattle.std.proofs.lemmas.Iterator.Search.{find_from_yields_List}
use Rattle.few.specs.Lists.{few_items}
use Rattle.site.proofs.EditWrites.{own_from_find}
use Rattle.site.proofs.edits.Edit.own.Goals as goal

pub returns-in_err-own : goal.returns-in_err-own
returns-in_err-own c =
    let l = few_items c.args.self.now.writes in
    c.from_residual.ensures ∙ ap (option_map (λ b. b.now.change)) (sym c.in_err-own.was)
    ∙ own_from_find l c.args.item _ (find_from_yields_List _ _ _ _ c.find.ensures.ran (YieldsList-from_slice l (c.iter.ensures.rest ∙ c.writes.ensures)) (λ x b q k. search (rules, tests)))

pub returns : goal.returns
returns c =
    let l = few_items c.args.self.now.writes in
    ap (option_map (λ b. b.now.change)) (sym c.in_ok-own.was)
    ∙ own_from_find l c.args.item _ (find_from_yields_List _ _ _ _ c.find.ensures.ran (YieldsList-from_slice l (c.iter.ensures.rest ∙ c.writes.ensures)) (λ x b q k. search (rules, tests)))
