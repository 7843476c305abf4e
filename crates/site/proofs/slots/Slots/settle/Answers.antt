use Rattle.std.proofs.Common.{Some, set, length, map, sym, ap, ◌∙◌, arith, length-set}
use lib.ListN.{length-map}
use Rattle.std.specs.List.{slice_get}
use Rattle.std.proofs.lemmas.List.{map-set, set-get_or}
use Rattle.site.specs.declared.slots.Slot.TheVariants.{Decided}
use Rattle.site.specs.Slots.{slot_model, slots_model, settled, decided, own_ticket}
use Rattle.site.proofs.SlotLaws.{slot_at}
use Rattle.site.proofs.Settling.{all_changed, settle_found, settle_rest}
use Rattle.site.proofs.slots.Slots.settle.Goals as goal
use Rattle.site.proofs.slots.Slots.settle.Goals.{in-Some, in_default}

pub loop-slot-preserved : goal.loop-slot-preserved
loop-slot-preserved c =
    let i = c.args.home.number in
    let ws = c.args.words.now in
    let d = c.args.decision in
    let n = c.loop-slot.slot-index in
    let items = c.loop-slot.slot-items in
    let ss = slots_model c.args.self.now in
    let there = slot_at items n c.slot-item.result (omega (arith, c.loop-slot-test.true, c.loop-slot.invariant.0)) c.slot-item.is in
    let own = ap (own_ticket i ws) (ap (λ l. slice_get l n) (sym c.loop-slot.invariant.1) ∙ there ∙ ap (λ s. Some (slot_model s)) c.slot-item.is) ∙ sym c.own_ticket.ensures in
    elim c.match-own_ticket.branch [
      | in-Some w ↦ (
        ap length w.slot-items-is ∙ length-set items n (Decided w.in-Some.ticket d) ∙ c.loop-slot.invariant.0,
        ap (map slot_model) w.slot-items-is
            ∙ map-set slot_model items n (Decided w.in-Some.ticket d)
            ∙ ap (λ l. set l n (decided w.in-Some.ticket d)) c.loop-slot.invariant.1
            ∙ settle_found i ws d n ss w.in-Some.ticket (own ∙ w.in-Some.is),
      )
      | in_default w ↦ (let e = w.slot-items-is ∙ set-get_or items n c.slot-item.result in (
        ap length e ∙ c.loop-slot.invariant.0,
        ap (map slot_model) e ∙ c.loop-slot.invariant.1
            ∙ settle_rest i ws d n ss (omega (arith, length-map c.args.self.now.table slot_model, c.args.self.now.eight)) (own ∙ w.in_default.is),
      ))
    ]

pub invariant_of-self : goal.invariant_of-self
invariant_of-self c = record { eight = c.loop-slot.invariant.0 }

pub returns : goal.returns
returns c =
    let old = c.args.self.now in
    c.loop-slot.invariant.1
    ∙ all_changed (settled c.args.home.number c.args.words.now c.args.decision) c.loop-slot.slot-index (slots_model old)
    (omega (arith, length-map old.table slot_model, old.eight))
