use Rattle.std.proofs.Common.{length, ap, ◌∙◌, arith}
use Rattle.std.proofs.lemmas.List.{length-set}
use Rattle.std.proofs.lemmas.Bool.{le-leb}
use Rattle.few.specs.Lists.{few_items}
use Rattle.logs.specs.LogModel.{all_within}
use Rattle.logs.proofs.Numbers.{within_set}
use Rattle.logs.proofs.counters.Counters.note.Goals as goal

pub invariant_of-self : goal.invariant_of-self
invariant_of-self c =
    let k = c.args.self.now in
    let ks = few_items k.known in
    record {
      placed = omega arith;
      counted = k.counted;
      two = omega (arith, ap length c.replace.ensures.after, length-set ks c.args.site c.args.number, k.two);
      within =
          ap all_within c.replace.ensures.after
          ∙ within_set ks c.args.site c.args.number (le-leb _ _ c.if-number-le-LIMIT.true) k.within;
    }
