use Rattle.std.proofs.Common.{◌≡◌, ◌++◌, take}
use Rattle.logs.specs.RingModel.{ring_items, ring_size}
use Rattle.logs.proofs.ring.Ring.extend.Given as goal

-- What the ring held, and then the elements so far.
abbrev pub invariant-loop-item : goal.invariant-loop-item
invariant-loop-item g l =
    (ring_items l.self ≡ ring_items l.initial.self ++ take l.item-index l.items) × (ring_size l.self ≡ ring_size l.initial.self)
