use Rattle.std.proofs.Common.{◌<◌, length, sym, ◌∙◌, arith}
use Rattle.site.proofs.SlotLaws.{needed_rest, needed_more, needed_end}
use Rattle.site.proofs.slots.Slots.keep.Goals as goal
use Rattle.site.proofs.slots.Slots.keep.Goals.{in-Open, in-Posted, in_default}

pub loop-slot-preserved : goal.loop-slot-preserved
loop-slot-preserved c =
    let xs = c.args.self.now.table in
    let i = c.loop-slot.slot-index in
    let v = c.loop-slot.least in
    let r = c.slot-item.result in
    let within : i < length xs = omega (arith, c.loop-slot-test.true, c.args.self.now.eight) in
    elim c.match-slot.branch [
      | in-Open w ↦ (needed_more xs i r v _ within (rw w.in-Open.is (cc)) ∙ c.loop-slot.invariant)
      | in-Posted w ↦ (needed_more xs i r v _ within (rw w.in-Posted.is (cc)) ∙ c.loop-slot.invariant)
      | in_default w ↦ (needed_more xs i r v _ within (w.least-is ∙ needed_rest v _ w.in_default.not-Open w.in_default.not-Posted) ∙ c.loop-slot.invariant)
    ]

pub returns : goal.returns
returns c = sym (needed_end c.args.self.now.table c.loop-slot.slot-index c.loop-slot.least (omega (arith, c.args.self.now.eight))) ∙ c.loop-slot.invariant
