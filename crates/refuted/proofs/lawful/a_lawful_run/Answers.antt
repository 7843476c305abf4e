use Rattle.refuted.proofs.lawful.a_lawful_run.Goals as goal
use Rattle.refuted.proofs.Happened.{happened}

pub returns : goal.returns
returns c = happened
