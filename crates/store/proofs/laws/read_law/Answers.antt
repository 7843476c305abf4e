use Rattle.store.proofs.LawProofs.{read_law}
use Rattle.store.proofs.laws.read_law.Goals as goal

pub returns : goal.returns
returns c = read_law
