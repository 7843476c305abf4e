use Rattle.refuted.proofs.refutations.sealing_nothing_is_refuted.Goals as goal
use Rattle.refuted.proofs.Values.{sealing_nothing_refuted}

pub returns : goal.returns
returns c = sealing_nothing_refuted
