use Rattle.std.proofs.Common.{arith}
use Rattle.site.specs.Slots.{slots_model}
use Rattle.site.proofs.SlotLaws.{needed_within}
use Rattle.site.proofs.site.Site.report.Goals as goal

pub spell_report-requires : goal.spell_report-requires
spell_report-requires g c =
    omega (arith, c.keep-keep.ensures, needed_within c.version.result (slots_model c.args.self.now.slots), c.version.ensures, (g.met.S.Store.bounded c.args.self.now.store).version_bound)
