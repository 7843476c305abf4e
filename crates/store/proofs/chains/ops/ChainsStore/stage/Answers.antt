use Rattle.std.proofs.Common.{◌+◌, ◌<◌, length, sym, ap, ◌∙◌, subst, arith}
use Rattle.std.proofs.lemmas.List.{get_or_default}
use Rattle.store.specs.ChainsRow.{chains_sound}
use Rattle.store.specs.RowChanges.{RowSound, tally_sound, stage_row, stage_sound}
use Rattle.store.specs.Rows.{row_model}
use Rattle.store.specs.Counts.{counts}
use Rattle.store.specs.StoreModel.{a_record}
use Rattle.store.proofs.ChainsChanges.{ChainSound, both_owed, staged_row, staged_chain}
use Rattle.store.proofs.chains.ops.ChainsStore.stage.Goals as goal

pub invariant_of-self-2 : goal.invariant_of-self-2
invariant_of-self-2 c =
    let s = c.args.self.now in
    let done = c.in_ok-place.ensures.place in
    let place = c.in_ok-place.place in
    let r = a_record (c.stage.new.self.version + 1) c.args.item c.args.change in
    let inside : c.in_ok-place.place < length c.args.self.now.slots.items = omega (arith, s.whole, done.1) in
    let slot = c.index.ensures ∙ get_or_default s.slots.items place c.index.result.now 0 inside in
    both_owed
    (subst (ChainSound _ _ _ _) (sym done.2) (staged_chain s place c.index.result.now r inside slot (omega (arith, done.0))))
    (subst (λ rs. RowSound rs (counts c.stage.new.self)) (sym (staged_row s place c.index.result.now r inside slot))
    (stage_sound _ _ (tally_sound s.tally) (chains_sound s) place _ done c.args.item c.args.change))

pub returns-clause-after : goal.returns-clause-after
returns-clause-after c =
    let s = c.args.self.now in
    let done = c.in_ok-place.ensures.place in
    let place = c.in_ok-place.place in
    let r = a_record (c.stage.new.self.version + 1) c.args.item c.args.change in
    let inside : c.in_ok-place.place < length c.args.self.now.slots.items = omega (arith, s.whole, done.1) in
    let slot = c.index.ensures ∙ get_or_default s.slots.items place c.index.result.now 0 inside in
    ap (λ rs. row_model rs (counts c.stage.new.self)) (staged_row s place c.index.result.now r inside slot)
    ∙ stage_row _ _ (tally_sound s.tally) (chains_sound s) place _ done c.args.item c.args.change
