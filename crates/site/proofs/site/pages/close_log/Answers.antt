use Rattle.std.proofs.Common.{◌≡◌, map, sym, refl, ap, ◌∙◌, arith}
use Rattle.std.proofs.lemmas.List.{take_all, length-map}
use Rattle.words.specs.Bits.{load_of}
use Rattle.words.specs.Pages.{a_closing}
use Rattle.logs.specs.LogModel.{closed}
use Rattle.site.specs.Modes.{given}
use Rattle.site.specs.CatchUp.{follows}
use Rattle.site.proofs.PagesTaken.{not_following, following}
use Rattle.site.proofs.site.pages.close_log.Goals as goal

pub returns-then-not-does_close : goal.returns-then-not-does_close
returns-then-not-does_close g c =
    let l = g.L.Log.model c.args.log.now in
    let ks = map load_of c.args.known.now in
    let same : c.as_slice.result.now ≡ ks = c.as_slice.ensures ∙ c.gather_known-numbers.ensures ∙ take_all 8 ks (omega (arith, c.requires, length-map c.args.known.now load_of)) in
    not_following l (a_closing c.args.version c.args.place ks)
    (ap (λ us. follows l (a_closing c.args.version c.args.place us)) (sym same) ∙ sym c.does_close.ensures ∙ c.if-not-does_close.true)

pub returns : goal.returns
returns g c =
    let l = g.L.Log.model c.args.log.now in
    let ks = map load_of c.args.known.now in
    let same : c.as_slice-2.result.now ≡ ks = c.as_slice-2.ensures ∙ c.gather_known-numbers.ensures ∙ take_all 8 ks (omega (arith, c.requires, length-map c.args.known.now load_of)) in
    let first : c.as_slice.result.now ≡ ks = c.as_slice.ensures ∙ sym c.as_slice-2.ensures ∙ same in
    ap (λ x. (given tt, x)) (c.close.ensures ∙ ap (closed l c.args.place) same)
    ∙ following l (a_closing c.args.version c.args.place ks)
    (ap (λ us. follows l (a_closing c.args.version c.args.place us)) (sym first) ∙ sym c.does_close.ensures ∙ c.if-not-does_close.false) refl
