use Rattle.std.proofs.Common.{rules, arith, length-take}
use Rattle.words.specs.Writes.{leading}
use Rattle.few.specs.Lists.{few_items}
use Rattle.site.proofs.Gathered.{gather_full, gather_stop}
use Rattle.site.proofs.gather.gather.Goals as goal

pub returns-then-is_err : goal.returns-then-is_err
returns-then-is_err c =
    let w = c.loop-write.writes in
    gather_full (few_items w) (leading c.args.words.now) (few_items c.push.new.self) c.loop-write.rest.now c.loop-write.invariant c.in-Some-default.write
    (search rules) (omega (arith, length-take w.count w.items, w.few)) c.push.ensures.after

pub returns : goal.returns
returns c =
    let w = c.loop-write.writes in
    gather_stop (few_items w) (leading c.args.words.now) (few_items w) c.loop-write.rest.now c.loop-write.invariant (search rules) (omega (arith, length-take w.count w.items, w.few))
