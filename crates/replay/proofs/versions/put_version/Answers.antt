use Rattle.std.proofs.Common.{sym, arith}
use Rattle.std.proofs.lemmas.Bool.{false≢true}
use Rattle.replay.proofs.Puts.{putting_none, putting_more, putting_full, putting_dropped, putting_all, putting_sealed, putting_reads}
use Rattle.replay.proofs.versions.put_version.Goals as goal

pub loop-write-init : goal.loop-write-init
loop-write-init g c = putting_none _ c.args.writes.now

pub returns-in-Err : goal.returns-in-Err
returns-in-Err g c =
    let inv = c.loop-write.invariant in
    let none = sym c.in-Err.ensures.answer in
    let full = putting_full inv (omega arith) none in
    record {
      answer = sym full;
      after = putting_dropped inv _ _ _ none full c.stage.ensures.after c.drop_staged.ensures;
      reads = λ e. absurd (false≢true e);
    }

pub loop-write-preserved : goal.loop-write-preserved
loop-write-preserved g c =
    putting_more c.loop-write.invariant _ _ (omega arith) (sym c.in_default.ensures.answer) c.stage.ensures.after

pub returns : goal.returns
returns g c =
    let inv = c.loop-write.invariant in
    record {
      answer = sym (putting_all inv (omega arith));
      after = putting_sealed inv (omega arith) _ c.seal.ensures;
      reads = λ e. putting_reads inv (omega arith) (g.met.S.Store.bounded c.loop-write.store) _ c.seal.ensures;
    }
