-- What a ring holds.
use Rattle.std.specs.Prelude.{ℕ, List, vec_items, vec_len}
use Rattle.logs.specs.declared.ring.Ring.{Ring}
use Rattle.logs.specs.Window.{window}

abbrev pub ring_items : {X : Type 0} → Ring X → List X
ring_items r = window (vec_items r.memory) r.start r.count

abbrev pub ring_size : {X : Type 0} → Ring X → ℕ
ring_size r = vec_len r.memory
