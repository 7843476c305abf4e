use Rattle.refuted.proofs.refutations.all_in_conflict_is_refuted.Goals as goal
use Rattle.refuted.proofs.Decisions.{all_in_conflict_refuted}

pub returns : goal.returns
returns c = all_in_conflict_refuted
