use Rattle.std.proofs.Common.{◌≡◌, ◌^◌, ◌<◌, drop}
use Rattle.text.specs.Numbers.{number_of}
use Rattle.text.proofs.NumberLaws.{reading}
use Rattle.text.proofs.numbers.number.Given as goal

abbrev pub invariant-loop-byte : goal.invariant-loop-byte
invariant-loop-byte l = (reading l.base l.number (drop l.byte-index l.digits) ≡ number_of l.base l.digits) × (l.number < 2 ^ 32)
