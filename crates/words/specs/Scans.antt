-- What a reader at a place of its words gives.
use Rattle.std.specs.Prelude.{ℕ, ◌+◌, cond, List, length, drop, Some, None, Option, nat_lt, slice_index}
use Rattle.words.specs.declared.changes.Write.{Write}
use Rattle.words.specs.Writes.{first_write}

-- The word at a place, if any, and the place after it.
abbrev pub word_at : List ℕ → ℕ → Option ℕ
word_at ws p = cond (nat_lt p (length ws)) (Some (slice_index ws p)) None

abbrev pub place_after : List ℕ → ℕ → ℕ
place_after ws p = cond (nat_lt p (length ws)) (p + 1) p

-- The write at a place, if any.
abbrev pub write_at : List ℕ → ℕ → Option Write
write_at ws p = first_write (drop p ws)
