use Rattle.account.proofs.Horizons.{horizon_rises}
use Rattle.account.proofs.laws.horizon_rises.Goals as goal

pub returns : goal.returns
returns c = horizon_rises
