use Rattle.std.proofs.Common.{◌+◌, sym, ap, ◌∙◌}
use Rattle.std.proofs.lemmas.Bool.{eq-eqb, ne_eqb}
use Rattle.words.specs.Pages.{an_entry}
use Rattle.logs.specs.LogModel.{entry_of}
use Rattle.site.specs.Modes.{given, refused}
use Rattle.site.proofs.PagesTaken.{refused_as, not_following, without_room, following, not_copied}
use Rattle.site.proofs.site.pages.copy_entry.Goals as goal

pub returns-then-version-last : goal.returns-then-version-last
returns-then-version-last g c =
    let e = c.args.entry in
    not_following (g.L.Log.model c.args.log.now) (an_entry e.home c.args.version e.ticket e.writes.now)
    (ne_eqb _ _ (λ q. c.if-version-last.true (q ∙ ap (λ n. n + 1) (sym c.last.ensures))))

pub returns-in_err-copy : goal.returns-in_err-copy
returns-in_err-copy g c =
    let l = g.L.Log.model c.args.log.now in
    let e = c.args.entry in
    let full = sym c.in_err-copy.ensures.answer in
    ap (λ r. (r, g.L.Log.model c.copy.new.self)) (refused_as (λ _. tt) c.from_residual.result _ c.from_residual.ensures.1)
    ∙ ap (λ x. (refused 13, x)) (c.copy.ensures.after ∙ not_copied l (entry_of e) full)
    ∙ without_room l (an_entry e.home c.args.version e.ticket e.writes.now) (eq-eqb _ _ (c.if-version-last.false ∙ ap (λ n. n + 1) c.last.ensures)) full

pub returns : goal.returns
returns g c =
    let l = g.L.Log.model c.args.log.now in
    let e = c.args.entry in
    ap (λ x. (given tt, x)) c.copy.ensures.after
    ∙ following l (an_entry e.home c.args.version e.ticket e.writes.now) (eq-eqb _ _ (c.if-version-last.false ∙ ap (λ n. n + 1) c.last.ensures)) (sym c.in_ok-copy.ensures.answer)
