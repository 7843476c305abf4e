use Rattle.std.proofs.Common.{rules, tests, ◌∙◌}
use Rattle.std.proofs.lemmas.Iterator.{YieldsList-from_slice}
use Rattle.std.proofs.lemmas.Iterator.Search.{all_from_yields_List}
use Rattle.site.proofs.Unknown.{every_list}
use Rattle.site.specs.Making.{is_zero}
use Rattle.site.proofs.site.making.is_unknown.Goals as goal

pub returns : goal.returns
returns g c =
    let ks = (g.L.Log.model c.args.log.now).known in
    all_from_yields_List is_zero _ _ c.all.result c.all.ensures.ran (YieldsList-from_slice ks (c.iter.ensures.rest ∙ c.as_slice.ensures ∙ c.known_of.ensures)) (λ x b q k. search (rules, tests))
    ∙ every_list is_zero ks
