use Rattle.account.proofs.Clashes.{commits_clear}
use Rattle.account.proofs.laws.commits_clear.Goals as goal

pub returns : goal.returns
returns c = commits_clear
