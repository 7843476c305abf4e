use Rattle.std.proofs.Common.{◌≡◌, IfOk, vec_items, replicate, sym, refl, subst, arith}
use Rattle.std.specs.List.{range_with_len}
use Rattle.std.proofs.lemmas.Iterator.{items_from_collect, YieldsList-from_range}
use Rattle.std.proofs.lemmas.List.{get_or-replicate}
use Rattle.store.specs.RowChanges.{RowSound}
use Rattle.store.specs.Slots.{laid}
use Rattle.store.proofs.ChainsChanges.{ChainSound, both_owed, fresh_sound, fresh_row}
use Rattle.store.proofs.chains.Chains.new.Goals as goal

pub invariant_of-result : goal.invariant_of-result
invariant_of-result c =
    let n = c.min-capacity.result in
    let xs = c.args.records.items in
    let os = c.in-Ok.slots.items in
    let ns = c.in-Ok-vec.next.items in
    let made : IfOk c.collect.result (λ v. vec_items v ≡ range_with_len 0 c.min-capacity.result) =
    items_from_collect _ c.collect.ensures.ran (YieldsList-from_range 0 n n refl (omega arith)) in
    let e : c.in-Ok.slots.items ≡ range_with_len 0 c.min-capacity.result = rw c.in-Ok.is at made in
    both_owed {hs = replicate 64 0}
    (subst (ChainSound xs os ns (replicate 64 0)) (sym c.new.ensures)
    (fresh_sound xs os ns _ n e (omega (arith, c.args.records.ok.0)) (omega (arith, c.in-Ok-vec.ensures.len, c.in-Ok-vec.next.ok.0)) (λ b l. get_or-replicate 64 b 0 0 l)))
    (subst (RowSound (laid xs os)) (sym c.new.ensures) (fresh_row xs os n e))
