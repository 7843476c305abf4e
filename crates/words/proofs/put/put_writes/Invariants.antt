use Rattle.std.proofs.Common.{◌≡◌, ◌*◌, ◌++◌, take, drop}
use Rattle.words.specs.Writes.{writes_words}
use Rattle.words.proofs.put.put_writes.Given as goal

-- The words of the writes so far, and what the buffer held after them.
abbrev pub invariant-loop-i : goal.invariant-loop-i
invariant-loop-i l = l.out ≡ writes_words (take l.i l.writes) ++ drop (2 * l.i) l.initial.out
