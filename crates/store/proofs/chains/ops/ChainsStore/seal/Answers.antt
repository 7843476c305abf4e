use Rattle.std.proofs.Common.{◌≡◌, ◌++◌, length, get_or, take, drop, sym, ap, ◌∙◌, subst, arith}
use Rattle.std.proofs.lemmas.List.{take_at}
use Rattle.store.specs.ChainsModel.{chains_row}
use Rattle.store.specs.ChainsRow.{chains_sound}
use Rattle.store.specs.Counts.{Counts, counts}
use Rattle.store.specs.Rows.{row_model}
use Rattle.store.specs.RowChanges.{RowSound, tally_sound, row_sealed, sealed_sound, sealed_capacity}
use Rattle.store.proofs.ChainsChanges.{both_owed}
use Rattle.store.proofs.chains.ops.ChainsStore.seal.Goals as goal

pub invariant_of-self : goal.invariant_of-self
invariant_of-self c =
    let s = c.args.self.now in
    let done = c.link.ensures in
    let next : take c.args.self.now.next.len (c.link.new.next ++ drop (length c.link.new.next) c.args.self.now.next.items) ≡ c.link.new.next =
    take_at c.link.new.next _ s.next.len (omega (arith, c.link.auto.next, ap length c.as_mut_slice.ensures.value, s.next.ok.0)) in
    both_owed {q = counts c.seal.new.self}
    (record {
      whole = s.whole ∙ sym (ap Counts.capacity c.seal.ensures ∙ sealed_capacity _ _ (tally_sound s.tally) (chains_sound s));
      memory = s.memory;
      links = omega (arith, s.links, c.link.auto.next, ap length c.as_mut_slice.ensures.value, ap length next);
      below = s.below;
      apart = s.apart;
      linked = λ i l. ap (λ ns. get_or ns (get_or s.slots.items i 0) 0) next ∙ (rw (c.as_slice.ensures.value, c.as_slice-2.ensures.value) at done.linked) i l;
      topped = rw (c.as_slice.ensures.value, c.as_slice-2.ensures.value) at done.topped;
    })
    (subst (RowSound (chains_row s)) (sym c.seal.ensures) (sealed_sound _ _ (tally_sound s.tally) (chains_sound s)))

pub returns : goal.returns
returns c =
    let s = c.args.self.now in
    ap (row_model (chains_row s)) c.seal.ensures ∙ row_sealed _ _ (tally_sound s.tally) (chains_sound s)
