use Rattle.std.proofs.Common.{◌≡◌, map, drop}
use Rattle.site.specs.Slots.{least_needed, slot_model}
use Rattle.site.proofs.slots.Slots.keep.Given as goal

-- The least so far, and of what is left of the slots, is the least of all.
abbrev pub invariant-loop-slot : goal.invariant-loop-slot
invariant-loop-slot l = least_needed l.least (drop l.slot-index (map slot_model l.self.table)) ≡ least_needed l.version (map slot_model l.self.table)
