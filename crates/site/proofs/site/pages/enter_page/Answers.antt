use Rattle.std.proofs.Common.{leb, map, length, sym, ap, ◌∙◌, arith}
use Rattle.std.proofs.lemmas.List.{length-map, take_all}
use Rattle.std.proofs.lemmas.Bool.{and_parts, leb-true}
use Rattle.words.specs.Bits.{load_of}
use Rattle.words.specs.Writes.{leading}
use Rattle.words.specs.Pages.{an_entry, page_value, has_words}
use Rattle.site.specs.CatchUp.{page_entered}
use Rattle.site.proofs.PageFacts.{few_of_page}
use Rattle.site.proofs.site.pages.enter_page.Goals as goal

pub close_log-requires : goal.close_log-requires
close_log-requires g c =
    let held = ap (λ p. has_words (page_value p)) (sym c.in-Closing.is) ∙ c.requires in
    omega (arith, leb-true _ 8 (and_parts (leb (length (map load_of c.in-Closing.known.now)) 8) _ held).0, length-map c.in-Closing.known.now load_of)

pub returns-in-Entry : goal.returns-in-Entry
returns-in-Entry g c =
    let l = g.L.Log.model c.args.log.now in
    let e = c.in-Entry in
    let ws = leading e.writes.now in
    let held = ap (λ p. has_words (page_value p)) (sym e.is) ∙ c.requires in
    let same = c.as_slice.ensures ∙ c.gather-gathered.ensures ∙ take_all 16 ws (few_of_page e.site e.version e.ticket ws held) in
    c.copy_entry.ensures ∙ ap (λ us. page_entered l (an_entry e.site e.version e.ticket us)) same ∙ ap (λ p. page_entered l (page_value p)) (sym e.is)
