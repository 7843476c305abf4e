use Rattle.std.proofs.Common.{arith}
use Rattle.words.proofs.SpelledPages.{fit_at}
use Rattle.words.proofs.Puts.{write_more}
use Rattle.words.proofs.put.put_writes.Goals as goal

pub make_word-requires : goal.make_word-requires
make_word-requires c = (fit_at c.args.writes.now c.loop-i.i _ c.requires.fit (omega arith)).0

pub change_bits-requires : goal.change_bits-requires
change_bits-requires c = (fit_at c.args.writes.now c.loop-i.i _ c.requires.fit (omega arith)).1

pub loop-i-preserved : goal.loop-i-preserved
loop-i-preserved c =
    write_more c.args.writes.now c.args.out.now c.loop-i.out c.loop-i.i _ _ _ (omega arith) c.requires.room
    c.loop-i.invariant c.make_word.ensures c.change_bits.ensures
