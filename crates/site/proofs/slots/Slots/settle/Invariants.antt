use Rattle.std.proofs.Common.{◌≡◌, map, length}
use Rattle.site.specs.Slots.{slot_model, settled}
use Rattle.site.proofs.Settling.{changed_up_to}
use Rattle.site.proofs.slots.Slots.settle.Given as goal

-- The slots below this one are settled.
abbrev pub invariant-loop-slot : goal.invariant-loop-slot
invariant-loop-slot l =
    (length l.slot-items ≡ 8)
    × (map slot_model l.slot-items ≡ changed_up_to (settled l.home.number l.words l.decision) l.slot-index (map slot_model l.fn.self.table))
