-- A part of a ring of memory.
use Rattle.std.specs.Prelude.{ℕ, ◌+◌, ◌-◌, cond, List, ◌++◌, take, drop, nat_lt}

-- The place i further on than `start`, in a ring of that size.
abbrev pub place_after : ℕ → ℕ → ℕ → ℕ
place_after size start i = cond (nat_lt (start + i) size) (start + i) (start + i - size)

-- As many elements as `count`, from `start` on, past the end from the beginning again.
abbrev pub window : {X : Type 0} → List X → ℕ → ℕ → List X
window items start count = take count (drop start (items ++ items))
