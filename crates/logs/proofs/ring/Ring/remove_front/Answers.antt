use Rattle.std.proofs.Common.{refl, ap, ◌∙◌, arith}
use Rattle.logs.specs.Window.{place_after}
use Rattle.logs.specs.Rings.{ring_count, ring_within, ring_dropped}
use Rattle.logs.proofs.ring.Ring.remove_front.Goals as goal

pub place_after-self-requires : goal.place_after-self-requires
place_after-self-requires g c =
    record { begins = omega (arith, c.args.self.now.begins); within = omega (arith, ring_count c.args.self.now, c.args.self.now.room) }

pub overflow_sub-self : goal.overflow_sub-self
overflow_sub-self g c = omega (arith, ring_count c.args.self.now)

pub invariant_of-self : goal.invariant_of-self
invariant_of-self g c =
    let r = c.args.self.now in
    let e = c.place_after-self.ensures ∙ ap (λ n. place_after n r.start c.args.count) c.len.ensures in
    record { begins = ring_within r c.args.count _ e (omega (arith, ring_count r, r.room)); room = omega (arith, r.room) }

pub returns : goal.returns
returns g c =
    let r = c.args.self.now in
    let e = c.place_after-self.ensures ∙ ap (λ n. place_after n r.start c.args.count) c.len.ensures in
    record { items = ring_dropped r c.args.count _ e (omega (arith, ring_count r)); size = refl }
