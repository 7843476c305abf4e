use Rattle.refuted.proofs.refutations.settling_by_any_is_refuted.Goals as goal
use Rattle.refuted.proofs.Records.{settling_by_any_refuted}

pub returns : goal.returns
returns c = settling_by_any_refuted
