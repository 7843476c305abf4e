use Rattle.refuted.proofs.refutations.reading_at_present_is_refuted.Goals as goal
use Rattle.refuted.proofs.Values.{reading_at_present_refuted}

pub returns : goal.returns
returns c = reading_at_present_refuted
