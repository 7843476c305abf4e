-- A journal: what a prune leaves of its row.
use Rattle.std.proofs.Common.{◌≡◌, ℕ, ◌+◌, ◌-◌, ◌≤◌, Bool, false, List, ◌++◌, length, take, drop, replicate, ap, ◌∙◌, arith}
use Rattle.std.proofs.lemmas.List.{length-take-le}
use Rattle.store.specs.declared.journal.Journal.{Journal}
use Rattle.store.specs.declared.records.Record.{Record}
use Rattle.store.specs.Counts.{a_counts}
use Rattle.store.specs.JournalModel.{journal_model}
use Rattle.store.specs.JournalRow.{journal_sound}
use Rattle.store.specs.Rows.{replaced, unmarked, row_model}
use Rattle.store.specs.RowChanges.{RowSound, tally_sound, inside, front_part, row_pruned, pruned_sound}
use Rattle.store.specs.StoreModel.{pruned, pruned_to}
use Rattle.store.proofs.Marks.{length_replaced, unmarked_replaced, left_long, left_front, left_behind}

module _ (j : Journal) where
  used : j.tally.sealed + j.tally.staged ≤ length j.records.items
  used = inside _ _ (tally_sound j.tally) (journal_sound j)

  sealed_long : length (take j.tally.sealed j.records.items) ≡ j.tally.sealed
  sealed_long = length-take-le j.tally.sealed j.records.items (omega (arith, used))

  -- the marks of the records in use, as the slices show them
  pub marks_shown : (to : ℕ) (rs : List Record) (gs : List Bool) → rs ≡ j.records.items →
      gs ≡ replaced to (take (j.tally.sealed - 0) rs) ++ drop (length (take (j.tally.sealed - 0) rs)) (replicate 4096 false) →
      take (j.tally.sealed + j.tally.staged - 0) gs ≡ take (j.tally.sealed + j.tally.staged) (replaced to (take j.tally.sealed j.records.items) ++ drop j.tally.sealed (replicate 4096 false))
  marks_shown to rs gs e m =
      let n = j.tally.sealed in
      let marks = replaced to (take j.tally.sealed j.records.items) in
      front_part _ gs (n + j.tally.staged) m
      ∙ ap (λ zs. take (n + j.tally.staged) (replaced to zs ++ drop (length zs) (replicate 4096 false))) (front_part j.records.items rs n e)
      ∙ ap (λ k. take (n + j.tally.staged) (marks ++ drop k (replicate 4096 false))) sealed_long

  -- gs are those marks, and r of the records are left, in ys
  module _ (to r : ℕ) (gs : List Bool) (ys : List Record)
      (marks : gs ≡ take (j.tally.sealed + j.tally.staged) (replaced to (take j.tally.sealed j.records.items) ++ drop j.tally.sealed (replicate 4096 false)))
      (long : length ys ≡ length j.records.items) (bound : r ≤ length ys) (left : take r ys ≡ unmarked gs (take (length gs) j.records.items)) where
    many : length (replaced to (take j.tally.sealed j.records.items)) ≡ j.tally.sealed
    many = length_replaced to (take j.tally.sealed j.records.items) ∙ sealed_long

    within : j.tally.sealed + j.tally.staged ≤ 4096
    within = let fits = j.tally.fits in let small = j.tally.small in omega arith

    front : take (r - j.tally.staged) ys ≡ pruned to (take j.tally.sealed j.records.items)
    front =
        left_front _ gs 4096 j.records.items ys j.tally.sealed j.tally.staged r marks many used within bound left
        ∙ unmarked_replaced to (take j.tally.sealed j.records.items)

    behind : take j.tally.staged (drop (r - j.tally.staged) ys) ≡ take j.tally.staged (drop j.tally.sealed j.records.items)
    behind = left_behind _ gs 4096 j.records.items ys j.tally.sealed j.tally.staged r marks many used within bound left

    pub left_staged : j.tally.staged ≤ r
    left_staged = omega (arith, left_long _ gs 4096 j.records.items ys j.tally.sealed j.tally.staged r marks many used within bound left)

    pub left_model : row_model ys (a_counts j.tally.capacity j.tally.version (r - j.tally.staged) j.tally.staged) ≡ pruned_to to (journal_model j)
    left_model = row_pruned _ _ (tally_sound j.tally) (journal_sound j) to ys (r - j.tally.staged) long front behind

    pub left_sound : RowSound ys (a_counts j.tally.capacity j.tally.version (r - j.tally.staged) j.tally.staged)
    left_sound = pruned_sound _ _ (tally_sound j.tally) (journal_sound j) to ys (r - j.tally.staged) long front behind
