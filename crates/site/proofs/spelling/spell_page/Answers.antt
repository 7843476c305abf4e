use Rattle.std.proofs.Common.{sym, ap, ◌∙◌}
use Rattle.words.specs.Pages.{page_words}
use Rattle.site.specs.CatchUp.{page_at}
use Rattle.site.specs.Spelling.{spelt}
use Rattle.site.proofs.PageFacts.{next_page, last_page}
use Rattle.site.proofs.Spelt.{front_spelt}
use Rattle.site.proofs.spelling.spell_page.Goals as goal

pub spell_next-requires : goal.spell_next-requires
spell_next-requires g c =
    let n = next_page (g.L.Log.model c.args.log.now) c.args.version c.in-Some.head (g.met.L.Log.bounded c.args.log.now) (sym c.in-Some.ensures) in
    record { home = n.home; ticket = n.ticket; version = n.version }

pub returns-in-Some : goal.returns-in-Some
returns-in-Some g c =
    let l = g.L.Log.model c.args.log.now in
    let n = next_page l c.args.version c.in-Some.head (g.met.L.Log.bounded c.args.log.now) (sym c.in-Some.ensures) in
    let q = c.spell_next.ensures ∙ ap (λ p. spelt (page_words p) c.args.out.now) (sym n.page) in
    record { put = q; front = front_spelt _ (page_words (page_at l c.args.version)) c.args.out.now _ q }

pub returns-in-None : goal.returns-in-None
returns-in-None g c =
    let l = g.L.Log.model c.args.log.now in
    let q = c.spell_last.ensures ∙ ap (λ p. spelt (page_words p) c.args.out.now) (sym (last_page l c.args.version (sym c.in-None.ensures))) in
    record { put = q; front = front_spelt _ (page_words (page_at l c.args.version)) c.args.out.now _ q }
