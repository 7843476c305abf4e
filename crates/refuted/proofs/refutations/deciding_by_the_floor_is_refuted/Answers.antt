use Rattle.refuted.proofs.refutations.deciding_by_the_floor_is_refuted.Goals as goal
use Rattle.refuted.proofs.Decisions.{by_floor_refuted}

pub returns : goal.returns
returns c = by_floor_refuted
