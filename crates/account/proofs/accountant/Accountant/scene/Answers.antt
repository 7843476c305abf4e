use Rattle.std.proofs.Common.{◌+◌, get_or, vec_items, sym, ap, ◌∙◌, arith}
use Rattle.account.specs.Scenes.{written}
use Rattle.account.specs.SceneMaps.{at_item}
use Rattle.account.proofs.SceneSteps.{applied_more, applied_all}
use Rattle.account.proofs.accountant.Accountant.scene.Goals as goal

pub returns : goal.returns
returns c =
    record {
      ordered = c.loop-i.invariant.ordered;
      values = λ x.
          sym (applied_all c.loop-i.i (vec_items c.args.self.now.commits) x _ (omega arith)) ∙ c.loop-i.invariant.values x;
    }

pub loop-i-preserved : goal.loop-i-preserved
loop-i-preserved c =
    let put = c.in_ok-put_all.ensures in
    let cs = vec_items c.args.self.now.commits in
    let i = c.loop-i.i in
    let kept = c.commit-item.is ∙ ap (λ l. get_or l i c.commit-item.result) c.deref-commit-items.ensures.value in
    record {
      ordered = put.ordered;
      values = λ x.
          applied_more i cs x (at_item c.loop-i.scene x) c.commit-item.result _ (omega arith)
          (put.values x ∙ ap (λ l. written (i + 1) l x (at_item c.loop-i.scene x)) (c.as_slice.ensures.value ∙ ap (λ k. vec_items k.writes) kept))
          ∙ c.loop-i.invariant.values x;
    }
