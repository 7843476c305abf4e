use Rattle.std.proofs.Common.{arith}
use Rattle.words.proofs.Puts.{known_more}
use Rattle.words.proofs.put.put_known.Goals as goal

pub loop-i-preserved : goal.loop-i-preserved
loop-i-preserved c =
    known_more c.args.known.now c.args.out.now c.loop-i.out c.loop-i.i _ 0 (omega arith) c.requires.room
    c.loop-i.invariant c.make_word.ensures
