-- The numbers of a store.
use Rattle.std.specs.Prelude.{ℕ, ◌+◌, cond, nat_lt}
use Rattle.store.specs.declared.tally.Tally.{Tally}

pub record Counts : Type 0 where
  pub capacity : ℕ
  pub version : ℕ
  pub sealed : ℕ
  pub staged : ℕ

abbrev pub a_counts : ℕ → ℕ → ℕ → ℕ → Counts
a_counts c v n t = record { capacity = c; version = v; sealed = n; staged = t }

abbrev pub counts : Tally → Counts
counts t = a_counts t.capacity t.version t.sealed t.staged

abbrev pub one_staged : Counts → Counts
one_staged q = a_counts q.capacity q.version q.sealed (q.staged + 1)

abbrev pub none_staged : Counts → Counts
none_staged q = a_counts q.capacity q.version q.sealed 0

-- The staged records are the next version, unless there can be none.
abbrev pub sealed_counts : Counts → Counts
sealed_counts q = cond (nat_lt q.version 268435455) (a_counts q.capacity (q.version + 1) (q.sealed + q.staged) 0) q
