use Rattle.std.proofs.Common.{◌≡◌, min, get_or, fold, ◌∙◌, rules}
use Rattle.logs.proofs.Numbers.{least_begins}
use Rattle.logs.proofs.counters.ops.least_of.Goals as goal

pub returns : goal.returns
returns c =
    let ks = c.args.numbers.now in
    let e : c.fold.result ≡ fold min (get_or ks 0 0) ks = search rules in
    e ∙ least_begins ks c.requires
