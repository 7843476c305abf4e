use Rattle.refuted.proofs.refutations.trimming_to_the_last_is_refuted.Goals as goal
use Rattle.refuted.proofs.Decisions.{trimming_to_last_refuted}

pub returns : goal.returns
returns c = trimming_to_last_refuted
