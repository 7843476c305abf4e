use Rattle.std.proofs.Common.{min, ap, ◌∙◌, arith}
use Rattle.logs.proofs.Tables.{left_high, left_sound, left_held}
use Rattle.logs.proofs.table.ops.TableHolder.trim.Goals as goal

pub invariant_of-self : goal.invariant_of-self
invariant_of-self c =
    let t = c.args.self.now in
    let bound = c.min-bound.ensures ∙ ap (min c.args.version) c.last.ensures in
    let above = c.if-bound-self.true in
    let items = c.remove_front.ensures.items in
    let size = c.remove_front.ensures.size in
    record {
      high = left_high t c.args.version _ bound above c.remove_front.new.self items size;
      small = omega (arith, size, t.small);
      sound = left_sound t c.args.version _ bound above c.remove_front.new.self items size;
    }

pub returns-then-bound-self : goal.returns-then-bound-self
returns-then-bound-self c =
    let t = c.args.self.now in
    let bound = c.min-bound.ensures ∙ ap (min c.args.version) c.last.ensures in
    left_held t c.args.version _ bound c.if-bound-self.true c.remove_front.new.self c.remove_front.ensures.items c.remove_front.ensures.size
