use Rattle.std.proofs.Common.{rules, tests, refl, ap, max, ◌+◌, ◌-◌, ◌∙◌}
use Rattle.std.proofs.lemmas.Iterator.{YieldsList-from_range}
use Rattle.std.proofs.lemmas.Iterator.Search.{find_from_yields_List}
use Rattle.site.proofs.Clashes.{clashes, clash_from, same_option}
use Rattle.site.proofs.certify.find_clash.Goals as goal

pub returns : goal.returns
returns g c =
    let m = g.L.Log.model c.args.log.now in
    let l = c.args.writes.now in
    let a = c.max-first.result + 1 in
    let b = c.last.result + 1 in
    same_option c.find.result
    ∙ find_from_yields_List (clashes m l) _ _ c.find.result c.find.ensures.ran (YieldsList-from_range a b (b - a) refl refl) (λ x r q k. search (rules, tests))
    ∙ clash_from m l c.args.snapshot a b
    (ap (λ n. n + 1) (c.max-first.ensures ∙ ap (max c.args.snapshot) c.floor.ensures)) (ap (λ n. n + 1) c.last.ensures)
