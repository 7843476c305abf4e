use Rattle.refuted.proofs.refutations.a_made_up_version_is_refuted.Goals as goal
use Rattle.refuted.proofs.Decisions.{made_up_version_refuted}

pub returns : goal.returns
returns c = made_up_version_refuted
