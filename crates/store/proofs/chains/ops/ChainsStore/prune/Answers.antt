use Rattle.std.proofs.Common.{◌≡◌, ◌++◌, length, get_or, take, drop, sym, ap, ◌∙◌, subst, arith}
use Rattle.std.proofs.lemmas.List.{get_or-replicate, take_at}
use Rattle.store.specs.Counts.{Counts, counts}
use Rattle.store.specs.Rows.{row_model}
use Rattle.store.specs.RowChanges.{RowSound}
use Rattle.store.specs.Slots.{laid, Below, Apart}
use Rattle.store.proofs.ChainsChanges.{both_owed, marks_shown, shuffled_long, shuffled_below, shuffled_apart, closed_staged, closed_model, closed_sound}
use Rattle.store.proofs.chains.ops.ChainsStore.prune.Goals as goal

pub keep-requires-clause-staged : goal.keep-requires-clause-staged
keep-requires-clause-staged c =
    let s = c.args.self.now in
    let done = c.compact-left.ensures in
    closed_staged s c.compact-left.new.items.items done.shuffled c.args.to c.compact-left.result _
    (marks_shown s c.sealed.result c.args.to _ c.sealed.ensures.records c.sealed.ensures.slots c.sealed.ensures.count c.mark_replaced.ensures)
    done.within done.front

pub invariant_of-row : goal.invariant_of-row
invariant_of-row c =
    let s = c.args.self.now in
    let ps = c.compact-left.new.items.items in
    let done = c.compact-left.ensures in
    let long = shuffled_long s ps done.shuffled in
    let slots : c.as_slice-2.result.now ≡ c.compact-left.new.items.items = c.as_slice-2.ensures.value in
    let whole = s.whole in
    let small = s.tally.small in
    record {
      small = omega (arith, ap length slots);
      memory = omega (arith, s.memory, ap length slots, ap length c.as_slice.ensures.value);
      below = subst (λ os. Below (length os) os) (sym slots) (shuffled_below s ps done.shuffled);
      apart = subst Apart (sym slots) (shuffled_apart s ps done.shuffled);
    }

pub link-requires-clause-links : goal.link-requires-clause-links
link-requires-clause-links c =
    let s = c.args.self.now in
    let long = shuffled_long s c.compact-left.new.items.items c.compact-left.ensures.shuffled in
    omega (arith, s.links, ap length c.as_slice-2.ensures.value, ap length c.as_mut_slice.ensures.value)

pub link-requires-clause-topped : goal.link-requires-clause-topped
link-requires-clause-topped c = λ b l. get_or-replicate 64 b 0 0 l

pub invariant_of-self : goal.invariant_of-self
invariant_of-self c =
    let s = c.args.self.now in
    let ps = c.compact-left.new.items.items in
    let done = c.compact-left.ensures in
    let linked = c.link.ensures in
    let long = shuffled_long s ps done.shuffled in
    let next : take c.args.self.now.next.len (c.link.new.next ++ drop (length c.link.new.next) c.args.self.now.next.items) ≡ c.link.new.next =
    take_at c.link.new.next _ s.next.len (omega (arith, c.link.auto.next, ap length c.as_mut_slice.ensures.value, s.next.ok.0)) in
    both_owed {q = counts c.keep.new.self}
    (record {
      whole = long ∙ s.whole ∙ sym (ap Counts.capacity c.keep.ensures);
      memory = omega (arith, s.memory);
      links = omega (arith, s.links, c.link.auto.next, ap length c.as_mut_slice.ensures.value, ap length next);
      below = shuffled_below s ps done.shuffled;
      apart = shuffled_apart s ps done.shuffled;
      linked = λ i l. ap (λ ns. get_or ns (get_or ps i 0) 0) next ∙ (rw (c.as_slice.ensures.value, c.as_slice-2.ensures.value) at linked.linked) i l;
      topped = rw (c.as_slice.ensures.value, c.as_slice-2.ensures.value) at linked.topped;
    })
    (subst (RowSound (laid s.records.items ps)) (sym c.keep.ensures) (closed_sound s ps done.shuffled c.args.to c.compact-left.result _
    (marks_shown s c.sealed.result c.args.to _ c.sealed.ensures.records c.sealed.ensures.slots c.sealed.ensures.count c.mark_replaced.ensures)
    done.within done.front))

pub returns : goal.returns
returns c =
    let s = c.args.self.now in
    let ps = c.compact-left.new.items.items in
    let done = c.compact-left.ensures in
    ap (row_model (laid s.records.items ps)) c.keep.ensures
    ∙ closed_model s ps done.shuffled c.args.to c.compact-left.result _
    (marks_shown s c.sealed.result c.args.to _ c.sealed.ensures.records c.sealed.ensures.slots c.sealed.ensures.count c.mark_replaced.ensures)
    done.within done.front
