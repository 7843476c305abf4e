use Rattle.std.proofs.Common.{rules}
use Rattle.words.proofs.Every.{all_fit_from_all}
use Rattle.words.proofs.changes.all_fit.Goals as goal

pub returns : goal.returns
returns c = all_fit_from_all c.all.result c.args.writes.now (search rules)
