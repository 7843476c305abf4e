use Rattle.std.proofs.Common.{sym, ◌∙◌, arith}
use Rattle.std.proofs.lemmas.List.{at_drop_all}
use Rattle.account.specs.Account.{meets}
use Rattle.logs.specs.LogModel.{entry_at}
use Rattle.site.specs.Calls.{writes_in}
use Rattle.site.proofs.Clashes.{meets_more, meets_done}
use Rattle.site.proofs.LogFacts.{few_in}
use Rattle.site.proofs.certify.does_meet.Goals as goal

pub returns-in_default : goal.returns-in_default
returns-in_default g c =
    let o = entry_at (g.L.Log.model c.args.log.now) c.args.version in
    sym (meets_done o c.args.writes.now c.loop-number.number (sym c.in_default.ensures)) ∙ c.loop-number.invariant

pub returns-then-has_item : goal.returns-then-has_item
returns-then-has_item g c =
    let o = entry_at (g.L.Log.model c.args.log.now) c.args.version in
    sym (meets_more o c.args.writes.now c.loop-number.number c.in-Some.write _ (sym c.in-Some.ensures) (sym c.has_item.ensures ∙ c.if-has_item.true))
    ∙ c.loop-number.invariant

pub loop-number-preserved : goal.loop-number-preserved
loop-number-preserved g c =
    let o = entry_at (g.L.Log.model c.args.log.now) c.args.version in
    sym (meets_more o c.args.writes.now c.loop-number.number c.in-Some.write _ (sym c.in-Some.ensures) (sym c.has_item.ensures ∙ c.if-has_item.false))
    ∙ c.loop-number.invariant

pub returns : goal.returns
returns g c =
    let m = g.L.Log.model c.args.log.now in
    let ws = writes_in (entry_at m c.args.version) in
    sym (at_drop_all (λ l. meets l c.args.writes.now) ws c.loop-number.number (omega (arith, few_in m c.args.version (g.met.L.Log.bounded c.args.log.now))))
    ∙ c.loop-number.invariant
