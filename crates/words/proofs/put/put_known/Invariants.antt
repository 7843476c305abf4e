use Rattle.std.proofs.Common.{◌≡◌, ◌++◌, map, take, drop}
use Rattle.words.specs.Bits.{word}
use Rattle.words.proofs.put.put_known.Given as goal

-- The words of the numbers so far, and what the buffer held after them.
abbrev pub invariant-loop-i : goal.invariant-loop-i
invariant-loop-i l = l.out ≡ map (word 11) (take l.i l.known) ++ drop l.i l.initial.out
