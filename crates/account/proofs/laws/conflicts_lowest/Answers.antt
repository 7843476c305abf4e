use Rattle.account.proofs.Clashes.{conflicts_lowest}
use Rattle.account.proofs.laws.conflicts_lowest.Goals as goal

pub returns : goal.returns
returns c = conflicts_lowest
