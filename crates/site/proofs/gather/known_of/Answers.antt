use Rattle.std.proofs.Common.{rules, ◌∙◌}
use Rattle.std.proofs.lemmas.List.{take_all}
use Rattle.few.specs.Gathered.{gathered_front}
use Rattle.site.proofs.gather.known_of.Goals as goal

pub returns : goal.returns
returns g c =
    let m = g.L.Log.model c.args.log.now in
    gathered_front _ 8 m.known (λ i r h p. search rules) c.gather.ensures
    ∙ take_all 8 m.known (g.met.L.Log.bounded c.args.log.now).few_sites
