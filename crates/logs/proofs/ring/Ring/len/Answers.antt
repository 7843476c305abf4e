use Rattle.std.proofs.Common.{sym}
use Rattle.logs.specs.Rings.{ring_count}
use Rattle.logs.proofs.ring.Ring.len.Goals as goal

pub returns : goal.returns
returns g c = record { value = sym (ring_count c.args.self.now); bound = c.args.self.now.room }
