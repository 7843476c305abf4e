use Rattle.refuted.proofs.refutations.pruning_to_present_is_refuted.Goals as goal
use Rattle.refuted.proofs.Values.{pruning_to_present_refuted}

pub returns : goal.returns
returns c = pruning_to_present_refuted
