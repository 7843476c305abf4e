use Rattle.std.proofs.Common.{length, refl, ap, ◌∙◌, arith}
use Rattle.std.proofs.lemmas.List.{length_push}
use Rattle.logs.specs.Window.{place_after}
use Rattle.logs.specs.RingModel.{ring_items}
use Rattle.logs.specs.Rings.{ring_count, ring_below, ring_pushed}
use Rattle.logs.proofs.ring.Ring.push.Goals as goal

pub index_mut-requires : goal.index_mut-requires
index_mut-requires g c =
    let r = c.args.self.now in
    let e = c.place_after-end.ensures ∙ ap (λ n. place_after n r.start r.count) c.len.ensures in
    ring_below r r.count _ e (omega (arith, ring_count r))

pub invariant_of-self : goal.invariant_of-self
invariant_of-self g c = let r = c.args.self.now in record { begins = r.begins; room = omega (arith, ring_count r) }

pub returns : goal.returns
returns g c =
    let r = c.args.self.now in
    let e = c.place_after-end.ensures ∙ ap (λ n. place_after n r.start r.count) c.len.ensures in
    let items = ring_pushed r r.count _ e c.args.item refl (omega (arith, ring_count r)) in
    record { items = items; len = ap length items ∙ length_push (ring_items r) c.args.item; size = refl }
