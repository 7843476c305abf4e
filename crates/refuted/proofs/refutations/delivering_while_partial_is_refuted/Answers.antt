use Rattle.refuted.proofs.refutations.delivering_while_partial_is_refuted.Goals as goal
use Rattle.refuted.proofs.Decisions.{while_partial_refuted}

pub returns : goal.returns
returns c = while_partial_refuted
