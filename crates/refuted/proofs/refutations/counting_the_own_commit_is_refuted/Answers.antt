use Rattle.refuted.proofs.refutations.counting_the_own_commit_is_refuted.Goals as goal
use Rattle.refuted.proofs.Decisions.{counting_own_commit_refuted}

pub returns : goal.returns
returns c = counting_own_commit_refuted
