use Rattle.std.proofs.Common.{◌≡◌, Some, sym, ap, ◌∙◌}
use Rattle.words.specs.Writes.{leading}
use Rattle.words.specs.Messages.{an_edit, message_value}
use Rattle.site.specs.Calls.{entered}
use Rattle.site.proofs.Delivered.{all_gathered}
use Rattle.site.proofs.site.places.decide.Goals as goal

pub returns-in-Edit : goal.returns-in-Edit
returns-in-Edit g c =
    let e = c.in-Edit in
    let m = g.L.Log.model c.args.log.now in
    let l = leading e.writes.now in
    let read : Some (an_edit e.site e.ticket e.snapshot l) ≡ _ = ap (λ x. Some (message_value x)) (sym e.is) ∙ c.in-Some.ensures.message in
    let valid = ((c.in-Some.ensures.exact (an_edit e.site e.ticket e.snapshot l)).0 (ap (λ x. Some (message_value x)) e.is)).1 in
    c.enter.ensures
    ∙ ap (λ k. entered m (Some (an_edit e.site e.ticket e.snapshot k))) (c.as_slice.ensures ∙ c.gather-gathered.ensures ∙ all_gathered c.args.sites e.site e.ticket e.snapshot l valid)
    ∙ ap (entered m) read
