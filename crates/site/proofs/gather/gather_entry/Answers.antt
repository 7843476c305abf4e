use Rattle.std.proofs.Common.{rules, ◌∙◌}
use Rattle.std.proofs.lemmas.List.{take_all}
use Rattle.few.specs.Gathered.{gathered_front}
use Rattle.logs.specs.LogModel.{entry_at}
use Rattle.site.specs.Calls.{writes_in}
use Rattle.site.proofs.LogFacts.{few_in}
use Rattle.site.proofs.gather.gather_entry.Goals as goal

pub returns : goal.returns
returns g c =
    let o = entry_at (g.L.Log.model c.args.log.now) c.args.version in
    gathered_front _ 16 (writes_in o) (λ i r h p. search rules) c.gather.ensures
    ∙ take_all 16 (writes_in o) (few_in (g.L.Log.model c.args.log.now) c.args.version (g.met.L.Log.bounded c.args.log.now))
