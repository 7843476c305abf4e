use Rattle.std.proofs.Common.{sym, ◌∙◌, arith}
use Rattle.account.specs.SceneMaps.{at_item}
use Rattle.account.proofs.SceneSteps.{written_more, written_all}
use Rattle.account.proofs.scenes.put_all.Goals as goal

pub loop-write-preserved : goal.loop-write-preserved
loop-write-preserved c =
    let put = c.in_ok-put.ensures in (
      put.ordered,
      λ x.
          written_more c.args.version c.loop-write.write-index c.args.writes.now _ x (at_item c.loop-write.scene x) _ (omega arith) (put.values x)
          ∙ c.loop-write.invariant.1 x,
    )

pub returns : goal.returns
returns c =
    record {
      ordered = c.loop-write.invariant.0;
      values = λ x.
          sym (written_all c.args.version c.loop-write.write-index c.args.writes.now x _ (omega arith)) ∙ c.loop-write.invariant.1 x;
    }
