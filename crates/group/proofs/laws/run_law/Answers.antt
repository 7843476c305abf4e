use Rattle.group.proofs.laws.run_law.Goals as goal
use Rattle.group.proofs.RunLaw.{run_law}

pub returns : goal.returns
returns c = run_law
