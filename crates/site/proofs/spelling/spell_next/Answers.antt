use Rattle.std.proofs.Common.{ap, ◌∙◌, rules}
use Rattle.words.specs.Pages.{an_entry}
use Rattle.logs.specs.LogModel.{entry_at}
use Rattle.site.specs.Calls.{writes_in}
use Rattle.site.proofs.PageFacts.{entry_held, page_spelt}
use Rattle.site.proofs.Spelt.{as_call}
use Rattle.site.proofs.spelling.spell_next.Goals as goal

pub returns-in_err-spell_entry : goal.returns-in_err-spell_entry
returns-in_err-spell_entry g c =
    let l = g.L.Log.model c.args.log.now in
    let h = c.args.head in
    let v = c.args.version in
    page_spelt (an_entry h.home v h.ticket c.as_slice.result.now) (an_entry h.home v h.ticket (writes_in (entry_at l v))) _ _ c.args.out.now _
    (ap (an_entry h.home v h.ticket) (c.as_slice.ensures ∙ c.gather_entry-writes.ensures))
    (entry_held l h.home v h.ticket (g.met.L.Log.bounded c.args.log.now) c.requires.home c.requires.ticket c.requires.version)
    (ap as_call c.in_err-spell_entry.was ∙ search rules) c.spell_entry.ensures.answer c.spell_entry.ensures.after
