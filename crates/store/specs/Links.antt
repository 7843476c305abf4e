-- Records in 64 chains by item.
use Rattle.std.specs.Prelude.{ℕ, ◌%◌, Bool, List, ◌==◌, slice_index_or}
use Rattle.store.specs.declared.records.Record.{Record}
use Rattle.store.specs.Rows.{blank}

abbrev pub chain_at : List Record → ℕ → ℕ
chain_at rs i = (slice_index_or rs i blank).item % 64

abbrev pub in_chain : ℕ → Record → Bool
in_chain b r = r.item % 64 == b
