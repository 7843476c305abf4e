use Rattle.logs.proofs.Entries.{least_of_known}
use Rattle.logs.proofs.laws.least_of_known.Goals as goal

pub returns : goal.returns
returns c = least_of_known
