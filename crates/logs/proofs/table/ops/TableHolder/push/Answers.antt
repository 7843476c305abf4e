use Rattle.std.proofs.Common.{arith}
use Rattle.logs.specs.LogModel.{entry_of}
use Rattle.logs.proofs.Tables.{table_open, pushed_high, pushed_sound}
use Rattle.logs.proofs.table.ops.TableHolder.push.Goals as goal

pub push-requires : goal.push-requires
push-requires c =
    table_open c.args.self.now (entry_of c.args.entry)
    c.requires

pub invariant_of-self : goal.invariant_of-self
invariant_of-self c =
    let t = c.args.self.now in
    let e = entry_of c.args.entry in
    record {
      high = pushed_high t e c.requires _ c.of.ensures c.push.new.self c.push.ensures.items c.push.ensures.size;
      small = omega (arith, c.push.ensures.size, t.small);
      sound = pushed_sound t e c.requires _ c.of.ensures c.push.new.self c.push.ensures.items c.push.ensures.size;
    }
