use Rattle.store.proofs.LawProofs.{prune_law}
use Rattle.store.proofs.laws.prune_law.Goals as goal

pub returns : goal.returns
returns c = prune_law
