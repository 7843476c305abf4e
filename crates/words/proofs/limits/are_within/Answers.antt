use Rattle.std.proofs.Common.{leb, rules}
use Rattle.words.proofs.Every.{every_from_all}
use Rattle.words.proofs.limits.are_within.Goals as goal

pub returns : goal.returns
returns c = every_from_all (λ k. leb k c.args.limit) _ _ (search rules)
