use Rattle.std.proofs.Common.{◌≡◌, ℕ, ◌-◌, ◌≤◌, ◌++◌, List, length, take, drop, sym, ap, ◌∙◌, subst, arith}
use Rattle.std.specs.List.{range_with_len}
use Rattle.std.proofs.lemmas.List.{get_or-replicate, take_all}
use Rattle.std.proofs.lemmas.List.FromFn.{length-range_with_len}
use Rattle.store.specs.RowChanges.{front_part}
use Rattle.store.specs.Rows.{replaced}
use Rattle.store.specs.Slots.{laid, Below, Apart}
use Rattle.store.proofs.SlotRows.{counting_below, counting_apart, counting_front, laid_counting}
use Rattle.store.proofs.journal.ops.mark_linked.Goals as goal

numbered : (slots : List ℕ) (n most : ℕ) → slots ≡ range_with_len 0 most → n ≤ most → take (n - 0) slots ≡ range_with_len 0 n
numbered slots n most e h = front_part (range_with_len 0 most) slots n e ∙ counting_front n most h

pub invariant_of-row : goal.invariant_of-row
invariant_of-row g c =
    let n = length c.args.row.now in
    let e = numbered _ n g.row.N c.number_slots-numbers.ensures c.requires.small in
    let long = ap length e ∙ length-range_with_len 0 n in
    record {
      small = omega (arith, long, c.requires.small, c.requires.most);
      memory = omega (arith, long);
      below = subst (λ zs. Below (length zs) zs) (sym e) (counting_below n);
      apart = subst Apart (sym e) (counting_apart n);
    }

pub link-requires-clause-topped : goal.link-requires-clause-topped
link-requires-clause-topped g c = λ b l. get_or-replicate 64 b 0 0 l

pub returns : goal.returns
returns g c =
    let rs = c.args.row.now in
    let n = length c.args.row.now in
    let e = numbered _ n g.row.N c.number_slots-numbers.ensures c.requires.small in
    c.mark_replaced.ensures
    ∙ ap (λ os. replaced c.args.to (take n (laid rs os)) ++ drop n c.args.gone.now) e
    ∙ ap (λ zs. replaced c.args.to (take n zs) ++ drop n c.args.gone.now) (laid_counting rs)
    ∙ ap (λ zs. replaced c.args.to zs ++ drop n c.args.gone.now) (take_all n rs (omega arith))
