use Rattle.std.proofs.Common.{vec_items, sym, ◌∙◌}
use lib.ListN.{length-map}
use Rattle.account.specs.Kept.{committed}
use Rattle.account.proofs.accountant.Accountant.last_version.Goals as goal

pub returns : goal.returns
returns c =
    let cs = c.args.self.now.commits in
    c.len.ensures ∙ cs.ok.0 ∙ sym (length-map (vec_items cs) committed)
