use Rattle.std.proofs.Common.{sym, ap, ◌∙◌}
use Rattle.std.specs.Option.{option_map}
use Rattle.words.specs.Pages.{page_value}
use Rattle.words.proofs.SpelledPages.{valid_has_words}
use Rattle.site.specs.Modes.{admission, admitted, reply}
use Rattle.site.specs.CatchUp.{taking}
use Rattle.site.specs.SiteModel.{site_model, with_log}
use Rattle.site.specs.Calls.{Done}
use Rattle.site.proofs.PagesTaken.{handed_on, some_from_ok, take_down, take_declined}
use Rattle.site.proofs.site.Site.take.Goals as goal

pub returns-in_err-mode : goal.returns-in_err-mode
returns-in_err-mode g c =
    let m = site_model g.S.Store.model g.L.Log.model c.args.self.now in
    let o = option_map page_value c.read_page-read.result in
    ap (λ a. (a, m)) (handed_on (λ _. Done) c.from_residual.result _ c.from_residual.ensures.1)
    ∙ take_down m c.args.words.now _ o (ap admission (sym c.in_err-mode.was) ∙ c.admit.ensures ∙ ap (admitted m.mode) c.take_event.ensures)

pub enter_page-requires : goal.enter_page-requires
enter_page-requires g c =
    let page = c.in_ok-page.page in
    let read = some_from_ok c.read_page-read.result _ page (sym c.ok_or.ensures.value ∙ c.in_ok-page.was) in
    valid_has_words c.args.self.now.home.sites (page_value page) ((c.read_page-read.ensures.exact (page_value page)).0 (ap (option_map page_value) read)).1

pub returns-in_err-enter_page : goal.returns-in_err-enter_page
returns-in_err-enter_page g c =
    let m = site_model g.S.Store.model g.L.Log.model c.args.self.now in
    let page = c.in_ok-page.page in
    let read = some_from_ok c.read_page-read.result _ page (sym c.ok_or.ensures.value ∙ c.in_ok-page.was) in
    ap (λ a. (a, with_log m (g.L.Log.model c.enter_page.new.log))) (handed_on (λ _. Done) c.from_residual-in_err-enter_page.result _ c.from_residual-in_err-enter_page.ensures.1)
    ∙ take_declined m c.args.words.now (page_value page) c.in_ok-mode.mode (sym c.read_page-read.ensures.page ∙ ap (option_map page_value) read)
    (ap admission (sym c.in_ok-mode.was) ∙ c.admit.ensures ∙ ap (admitted m.mode) (c.take_event.ensures ∙ ap (λ r. taking (option_map page_value r)) read))
    (sym c.if-not-are_empty.ensures) _ (g.L.Log.model c.enter_page.new.log)
    (ap (λ r. (reply (λ _. tt) r, g.L.Log.model c.enter_page.new.log)) (sym c.in_err-enter_page.was) ∙ c.enter_page.ensures)
