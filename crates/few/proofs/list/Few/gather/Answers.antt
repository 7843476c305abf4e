use Rattle.std.proofs.Common.{◌∙◌, refl, arith}
use Rattle.std.proofs.lemmas.List.{length-replicate, length-set, take_more_set}
use Rattle.few.specs.Lists.{ended}
use Rattle.few.proofs.Gathering.{gathering_none, gathering_more, gathered, gathered_full}
use Rattle.few.proofs.list.Few.gather.Goals as goal

pub loop-i-init : goal.loop-i-init
loop-i-init g c = (length-replicate g.row.N c.args.blank, gathering_none _ _ _ refl)

pub returns-in_default : goal.returns-in_default
returns-in_default g c =
    gathered _ _ c.loop-i.i _ (ended c.loop-i-test.true c.in_default.ensures) c.loop-i.invariant.1

pub loop-i-preserved : goal.loop-i-preserved
loop-i-preserved g c =
    let items = c.loop-i.items in
    let set = take_more_set items c.loop-i.i c.in-Some.item (omega (arith, c.loop-i.invariant.0)) in (
      length-set items c.loop-i.i c.in-Some.item ∙ c.loop-i.invariant.0,
      gathering_more _ _ c.loop-i.i c.in-Some.item _ _ c.loop-i-test.true c.in-Some.ensures set c.loop-i.invariant.1,
    )

pub returns : goal.returns
returns g c = gathered_full _ _ c.loop-i.i c.loop-i.items (omega arith) c.loop-i.invariant.1
