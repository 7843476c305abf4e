-- What the numbers are.
use Rattle.std.specs.Prelude.{ℕ, zero, suc, ◌+◌, ◌*◌, ◌/◌, ◌%◌, ◌^◌}
use Rattle.chance.specs.declared.Random.{Random}

abbrev pub state_of : {shift : ℕ} → Random shift → ℕ
state_of r = r.state

abbrev pub next_state : ℕ → ℕ
next_state s = (s * 1664525 % 2 ^ 32 + 1013904223) % 2 ^ 32

-- The number below b that a state gives without its lowest bits.
abbrev pub number : ℕ → ℕ → ℕ → ℕ
number shift s zero = 0
number shift s (suc b) = s / 2 ^ (shift % 32) % suc b
