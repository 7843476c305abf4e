use Rattle.std.proofs.Common.{◌≡◌, ◌+◌, ◌-◌, ◌%◌, ◌<◌, length, get_or, take, drop, ap, ◌∙◌, arith}
use Rattle.std.proofs.lemmas.List.{get_or-take, get_or-drop, length-set, length-drop, length-take-le}
use Rattle.store.specs.Rows.{blank}
use Rattle.store.specs.Slots.{laid}
use Rattle.store.proofs.SlotWalks.{laid_at, slot_nexts_more, slot_tops_more}
use Rattle.store.proofs.slots.InSlots.link.Goals as goal

pub loop-slot-preserved : goal.loop-slot-preserved
loop-slot-preserved c =
    let s = c.args.self.now in
    let os = c.args.self.now.slots.now in
    let k = c.loop-slot.slot-index in
    let i = c.args.from + k in
    let inv = c.loop-slot.invariant in
    let many : length (take (c.args.to - c.args.from) (drop c.args.from c.args.self.now.slots.now)) ≡ c.args.to - c.args.from =
    length-take-le (c.args.to - c.args.from) (drop c.args.from os) (omega (arith, length-drop c.args.from os)) in
    let inside : c.args.from + c.loop-slot.slot-index < length c.args.self.now.slots.now = omega (arith, c.loop-slot-test.true) in
    let here : get_or (take (c.args.to - c.args.from) (drop c.args.from c.args.self.now.slots.now)) c.loop-slot.slot-index 0 ≡ get_or c.args.self.now.slots.now (c.args.from + c.loop-slot.slot-index) 0 =
    get_or-take (c.args.to - c.args.from) (drop c.args.from os) k 0 (omega (arith, c.loop-slot-test.true)) ∙ get_or-drop c.args.from os k 0 in
    let next : c.args.from + (c.loop-slot.slot-index + 1) ≡ c.args.from + c.loop-slot.slot-index + 1 = omega arith in
    let low = s.below i inside in
    let chain = ap (λ r. r.item % 64) (laid_at s.records.now os i inside) in
    let small : (get_or c.args.self.now.records.now (get_or c.args.self.now.slots.now (c.args.from + c.loop-slot.slot-index) 0) blank).item % 64 < 64 = omega arith in
    rw (here, next) (record {
      linked = slot_nexts_more (laid s.records.now os) os i _ chain c.loop-slot.next _ inside (omega arith) s.apart inv.linked (inv.topped _ small);
      topped = slot_tops_more (laid s.records.now os) os i _ chain c.loop-slot.heads inv.whole inv.topped;
      whole = simp length-set inv.whole;
    })
