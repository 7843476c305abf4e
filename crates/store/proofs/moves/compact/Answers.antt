use Rattle.store.proofs.Compact.{compacting_long, compacting_kept, compacting_left, compacting_all}
use Rattle.std.proofs.Common.{arith}
use Rattle.store.proofs.moves.compact.Goals as goal
use Rattle.store.proofs.moves.compact.Goals.{then-not-is_gone, else-not-is_gone}

pub loop-i-preserved : goal.loop-i-preserved
loop-i-preserved g c =
    elim c.if-not-is_gone.branch [
      | then-not-is_gone w ↦ rw (w.items-is, w.end-is)
          (compacting_kept c.loop-i.invariant (omega arith) _ w.swap.ensures.items w.if-not-is_gone.true)
      | else-not-is_gone w ↦ rw (w.items-is, w.end-is) (compacting_left c.loop-i.invariant (omega arith) w.if-not-is_gone.false)
    ]

pub returns : goal.returns
returns g c =
    let inv = c.loop-i.invariant in
    record {
      bound = omega arith;
      front = compacting_all inv (omega arith);
      shuffled = inv.shuffled;
      within = omega (arith, compacting_long inv, inv.row);
    }
