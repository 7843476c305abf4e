use Rattle.std.proofs.Common.{rules}
use Rattle.words.specs.Pages.{known_fits}
use Rattle.words.proofs.Every.{every_from_all}
use Rattle.words.proofs.pages.are_known.Goals as goal

pub returns : goal.returns
returns c = every_from_all (known_fits c.args.limit) c.all.result c.args.words.now (search rules)
