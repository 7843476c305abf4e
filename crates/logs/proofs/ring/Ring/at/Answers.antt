use Rattle.std.proofs.Common.{sym, ap, ◌∙◌, arith}
use Rattle.logs.specs.Window.{place_after}
use Rattle.logs.specs.Rings.{ring_count, ring_below, ring_at}
use Rattle.logs.proofs.ring.Ring.at.Goals as goal

pub place_after-requires : goal.place_after-requires
place_after-requires g c =
    record { begins = omega (arith, c.args.self.now.begins); within = omega (arith, ring_count c.args.self.now, c.args.self.now.room) }

pub index-requires : goal.index-requires
index-requires g c =
    let r = c.args.self.now in
    let e = c.place_after.ensures ∙ ap (λ n. place_after n r.start c.args.place) c.len.ensures in
    ring_below r c.args.place _ e (omega (arith, ring_count r, r.room))

pub returns : goal.returns
returns g c =
    let r = c.args.self.now in
    let e = c.place_after.ensures ∙ ap (λ n. place_after n r.start c.args.place) c.len.ensures in
    c.index.ensures ∙ sym (ring_at r c.args.place _ e _ (omega (arith, ring_count r)))
