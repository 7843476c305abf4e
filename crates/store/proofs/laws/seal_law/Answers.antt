use Rattle.store.proofs.LawProofs.{seal_law}
use Rattle.store.proofs.laws.seal_law.Goals as goal

pub returns : goal.returns
returns c = seal_law
