use Rattle.std.proofs.Common.{sym, ap, ◌∙◌}
use Rattle.site.specs.Modes.{admission}
use Rattle.site.specs.SiteModel.{site_model, with_log, with_slots}
use Rattle.site.specs.Calls.{first, placing, Told}
use Rattle.site.proofs.Delivered.{is_whole, deliver_misplaced, deliver_decided, deliver_declined}
use Rattle.site.proofs.PagesTaken.{handed_on}
use Rattle.site.proofs.site.Site.deliver.Goals as goal

pub returns-in_err-check_place : goal.returns-in_err-check_place
returns-in_err-check_place g c =
    let m = site_model g.S.Store.model g.L.Log.model c.args.self.now in
    let whole = is_whole m.mode _ (ap admission (sym c.in_ok-admit.was) ∙ c.admit.ensures) in
    ap (λ a. (a, m)) (handed_on Told c.from_residual-in_err-check_place.result _ c.from_residual-in_err-check_place.ensures.1)
    ∙ deliver_misplaced m c.args.place c.args.words.now whole _ (c.in_err-check_place.ensures ∙ ap (λ k. first (placing k c.args.place)) c.place.ensures)

pub returns-in_err-decision : goal.returns-in_err-decision
returns-in_err-decision g c =
    let m = site_model g.S.Store.model g.L.Log.model c.args.self.now in
    let whole = is_whole m.mode _ (ap admission (sym c.in_ok-admit.was) ∙ c.admit.ensures) in
    let l = g.L.Log.model c.decide.new.log in
    ap (λ a. (a, with_log m l)) (handed_on Told c.from_residual-in_err-decision.result _ c.from_residual-in_err-decision.ensures.1)
    ∙ deliver_declined m c.args.place c.args.words.now whole (c.in_ok-check_place.ensures ∙ ap (λ k. first (placing k c.args.place)) c.place.ensures) _ l c.in_err-decision.ensures

pub returns : goal.returns
returns g c =
    let m = site_model g.S.Store.model g.L.Log.model c.args.self.now in
    let whole = is_whole m.mode _ (ap admission (sym c.in_ok-admit.was) ∙ c.admit.ensures) in
    let d = c.in_ok-decision.decision in
    let l = g.L.Log.model c.decide.new.log in
    ap (λ ss. (Told d, with_slots (with_log m l) ss)) c.settle.ensures
    ∙ deliver_decided m c.args.place c.args.words.now whole (c.in_ok-check_place.ensures ∙ ap (λ k. first (placing k c.args.place)) c.place.ensures) d l c.in_ok-decision.ensures
