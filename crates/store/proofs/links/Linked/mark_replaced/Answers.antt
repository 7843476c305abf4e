use Rattle.std.proofs.Common.{◌<◌, length, set, ap, ◌∙◌, arith}
use Rattle.store.proofs.ChainsChanges.{mark_found, marks_all}
use Rattle.store.proofs.SlotWalks.{laid_at}
use Rattle.store.proofs.links.Linked.mark_replaced.Goals as goal

pub loop-i-preserved : goal.loop-i-preserved
loop-i-preserved c =
    let s = c.args.self.now in
    let inside : c.loop-i.i < length c.args.self.now.row.slots.now = omega (arith, s.within) in
    ap (set c.loop-i.gone c.loop-i.i) c.is_some.ensures
    ∙ mark_found s c.args.to c.loop-i.i c.args.gone.now c.loop-i.gone _ c.find_behind.result (omega arith) (omega arith)
    (laid_at s.row.records.now s.row.slots.now c.loop-i.i inside) c.find_behind.ensures c.loop-i.invariant

pub returns : goal.returns
returns c =
    marks_all c.args.self.now c.args.to c.loop-i.i c.args.gone.now c.loop-i.gone (omega arith) (omega arith) c.loop-i.invariant
