use Rattle.std.proofs.Common.{vec_items, arith}
use lib.ListN.{length-map}
use Rattle.account.specs.Kept.{committed}
use Rattle.account.proofs.accountant.Accountant.judge.Goals as goal

pub overflow_add-result : goal.overflow_add-result
overflow_add-result c =
    let a = c.args.self.now in
    omega (arith, c.last_version-last.ensures, length-map (vec_items a.commits) committed, a.commits.ok.0, a.fewer, a.limit)
