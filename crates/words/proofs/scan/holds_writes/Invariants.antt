use Rattle.std.proofs.Common.{◌≡◌, ◌-◌, drop}
use Rattle.words.specs.Writes.{are_writes}
use Rattle.words.proofs.scan.holds_writes.Given as goal

-- The reader stays at its words, and what is left of them decides as the whole did.
abbrev pub invariant-loop : goal.invariant-loop
invariant-loop l =
    (l.reader.words.now ≡ l.words)
    × (are_writes l.low (l.count - l.counter) (drop l.reader.place l.words) ≡ are_writes 0 l.count l.words)
