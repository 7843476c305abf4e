use Rattle.std.proofs.Common.{map, vec_items, ap, ◌∙◌}
use Rattle.std.proofs.lemmas.List.{map_push}
use Rattle.account.specs.Account.{judged}
use Rattle.account.specs.Books.{books}
use Rattle.account.specs.Kept.{committed}
use Rattle.account.proofs.Entries.{kept_entered, passed_entered}
use Rattle.account.proofs.accountant.Accountant.enter.Goals as goal
use Rattle.account.proofs.accountant.Accountant.enter.Goals.{in-Commit+in_ok-push, in_default}

pub returns : goal.returns
returns c =
    let a = c.args.self.now in
    let e = c.judge-decision.ensures ∙ ap (judged (books a).account c.args.snapshot) c.as_slice.ensures.value in
    elim c.match-decision.branch [
      | in-Commit+in_ok-push w ↦
          kept_entered a.sites a.places (books a).account c.args.edit.home c.args.edit.ticket c.args.snapshot (vec_items c.args.edit.writes)
          c.judge-decision.result c.requires e w.in-Commit.field-0 _ w.in-Commit.is
          (ap (λ x. map committed (vec_items x.1.1.1.0)) w.self-is
          ∙ ap (map committed) w.in_ok-push.ensures.items
          ∙ map_push committed (vec_items a.commits) _)
      | in_default w ↦
          passed_entered a.sites a.places (books a).account c.args.edit.home c.args.edit.ticket c.args.snapshot (vec_items c.args.edit.writes)
          c.judge-decision.result c.requires e _ w.in_default.not-Commit
          (ap (λ x. map committed (vec_items x.1.1.1.0)) w.self-is)
    ]
