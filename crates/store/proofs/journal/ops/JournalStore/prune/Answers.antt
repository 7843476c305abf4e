use Rattle.std.proofs.Common.{sym, ap, ◌∙◌, subst}
use Rattle.std.proofs.lemmas.List.Sorted.{length_permutation}
use Rattle.store.specs.Rows.{row_model}
use Rattle.store.specs.RowChanges.{RowSound, owed}
use Rattle.store.proofs.JournalChanges.{marks_shown, left_staged, left_model, left_sound}
use Rattle.store.proofs.journal.ops.JournalStore.prune.Goals as goal

pub keep-requires-clause-staged : goal.keep-requires-clause-staged
keep-requires-clause-staged c =
    let j = c.args.self.now in
    let done = c.compact-left.ensures in
    left_staged j c.args.to c.compact-left.result _ c.compact-left.new.items.items
    (marks_shown j c.args.to c.as_slice.result.now _ c.as_slice.ensures.value c.mark_replaced.ensures)
    (length_permutation _ _ done.shuffled) done.within done.front

pub invariant_of-self : goal.invariant_of-self
invariant_of-self c =
    let j = c.args.self.now in
    let done = c.compact-left.ensures in
    owed (subst (RowSound c.compact-left.new.items.items) (sym c.keep.ensures)
    (left_sound j c.args.to c.compact-left.result _ c.compact-left.new.items.items
    (marks_shown j c.args.to c.as_slice.result.now _ c.as_slice.ensures.value c.mark_replaced.ensures)
    (length_permutation _ _ done.shuffled) done.within done.front))

pub returns : goal.returns
returns c =
    let j = c.args.self.now in
    let done = c.compact-left.ensures in
    ap (row_model c.compact-left.new.items.items) c.keep.ensures
    ∙ left_model j c.args.to c.compact-left.result _ c.compact-left.new.items.items
    (marks_shown j c.args.to c.as_slice.result.now _ c.as_slice.ensures.value c.mark_replaced.ensures)
    (length_permutation _ _ done.shuffled) done.within done.front
