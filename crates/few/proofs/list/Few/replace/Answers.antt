use Rattle.std.proofs.Common.{arith}
use lib.Seq.{take-set-lt}
use Rattle.few.proofs.list.Few.replace.Goals as goal

pub returns-clause-after : goal.returns-clause-after
returns-clause-after g c =
    take-set-lt c.args.self.now.count c.args.self.now.items c.args.place c.args.item (omega arith)
