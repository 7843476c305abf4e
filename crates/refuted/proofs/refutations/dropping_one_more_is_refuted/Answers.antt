use Rattle.refuted.proofs.refutations.dropping_one_more_is_refuted.Goals as goal
use Rattle.refuted.proofs.Records.{dropping_one_more_refuted}

pub returns : goal.returns
returns c = dropping_one_more_refuted
