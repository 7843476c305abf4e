use Rattle.logs.proofs.Entries.{entries_follow}
use Rattle.logs.proofs.laws.entries_follow.Goals as goal

pub returns : goal.returns
returns c = entries_follow
