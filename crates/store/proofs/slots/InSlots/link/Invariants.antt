use Rattle.std.proofs.Common.{◌+◌, ◌≤◌, length}
use Rattle.store.specs.Slots.{laid, SlotNexts, SlotTops}
use Rattle.store.proofs.slots.InSlots.link.Given as goal

abbrev pub invariant-loop-slot : goal.invariant-loop-slot
invariant-loop-slot l = record {
  linked : SlotNexts (laid l.self.records.now l.self.slots.now) l.self.slots.now l.next (l.from + l.slot-index);
  topped : SlotTops (laid l.self.records.now l.self.slots.now) l.self.slots.now l.heads (l.from + l.slot-index);
  whole : 64 ≤ length l.heads;
}
