use Rattle.account.proofs.Steps.{front_stands}
use Rattle.account.proofs.laws.front_stands.Goals as goal

pub returns : goal.returns
returns c = front_stands
