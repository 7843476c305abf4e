-- Chains: that they stay sound, and what their reads and marks are.
use Rattle.std.proofs.Common.{◌≡◌, ℕ, ◌+◌, ◌-◌, ◌<◌, ◌≤◌, Bool, true, false, ltb, List, ◌++◌, length, get_or, take, drop, set, replicate, Option, Some, None, is_some, sym, refl, ap, ◌∙◌, subst, arith}
use Rattle.std.specs.List.{range_with_len}
use Rattle.std.specs.List.Sorted.{IsPermutation}
use Rattle.std.proofs.lemmas.List.FromFn.{length-range_with_len}
use Rattle.std.proofs.lemmas.List.{length-set, length-take-le, get_or-set_other, get_or-take, get_or_default, take_all}
use Rattle.std.proofs.lemmas.List.Sorted.{length_permutation}
use Rattle.store.specs.declared.chains.Chains.{Chains}
use Rattle.store.specs.declared.links.Linked.{Linked}
use Rattle.store.specs.declared.records.Record.{Record}
use Rattle.store.specs.ChainsModel.{chains_row, chains_model}
use Rattle.store.specs.Counts.{Counts, counts, a_counts, one_staged}
use Rattle.store.specs.Rows.{blank, of_version, last_place, at_place, replaced, unmarked, row_model}
use Rattle.store.specs.Slots.{laid, later_slot, Below, Apart, SlotNexts, SlotTops}
use Rattle.store.specs.StoreModel.{every, at_most, matches, latest, value_in, value_of, pruned, pruned_to}
use Rattle.store.specs.ChainsRow.{laid_long, chains_sound}
use Rattle.store.specs.RowChanges.{RowSound, tally_sound, front_part, row_pruned, pruned_sound}
use Rattle.store.proofs.LinkedRow.{linked_row, linked_long}
use Rattle.store.proofs.Marks.{length_replaced, mark_here, marks_more, left_long, left_front, left_behind}
use Rattle.store.proofs.Places.{place_le, at_place_here, latest_below}
use Rattle.store.proofs.SlotWalks.{laid_at}
use Rattle.store.proofs.SlotRows.{counting_below, counting_apart, closed_front, closed_behind, laid_set, apart_shuffled, below_shuffled, is_later, later_none, later_found, place_taken, slot_nexts_same, slot_tops_same}

-- Records xs in slots os, with the links ns and the heads hs of the first of them, as q counts them
pub record ChainSound (xs : List Record) (os ns hs : List ℕ) (q : Counts) : Type 0 where
  pub whole : length os ≡ q.capacity
  pub memory : length os ≤ length xs
  pub links : length os ≤ length ns
  pub below : Below (length os) os
  pub apart : Apart os
  pub linked : SlotNexts (laid xs os) os ns q.sealed
  pub topped : SlotTops (laid xs os) os hs q.sealed

-- the same, with what the row owes, as the ghost fields of the struct ask for it
pub both_owed : {xs : List Record} {os ns hs : List ℕ} {q : Counts} → ChainSound xs os ns hs q → RowSound (laid xs os) q → record {
  whole : length os ≡ q.capacity;
  memory : length os ≤ length xs;
  links : length os ≤ length ns;
  below : Below (length os) os;
  apart : Apart os;
  linked : SlotNexts (laid xs os) os ns q.sealed;
  topped : SlotTops (laid xs os) os hs q.sealed;
  past : every (at_most q.version) (take q.sealed (laid xs os)) ≡ true;
  coming : every (of_version (q.version + 1)) (take q.staged (drop q.sealed (laid xs os))) ≡ true;
}
both_owed c s = record {
  whole = c.whole;
  memory = c.memory;
  links = c.links;
  below = c.below;
  apart = c.apart;
  linked = c.linked;
  topped = c.topped;
  past = s.past;
  coming = s.coming;
}

-- Reads

module _ (s : Chains) (p : Record → Bool) where
  row_long : s.tally.sealed ≤ length (chains_row s)
  row_long = let fits = s.tally.fits in let whole = s.whole in omega (arith, laid_long s.records.items s.slots.items)

  low : last_place p (chains_row s) s.tally.sealed ≤ s.tally.sealed
  low = place_le p (chains_row s) s.tally.sealed

  pub none_read : None ≡ later_slot s.slots.items 0 (last_place p (chains_row s) s.tally.sealed) → None ≡ value_in (latest p (take s.tally.sealed (chains_row s)))
  none_read e =
      let none : last_place p (chains_row s) s.tally.sealed ≤ 0 = later_none _ _ _ e in
      let z : 0 ≡ last_place p (chains_row s) s.tally.sealed = omega arith in
      ap (λ k. value_in (at_place (chains_row s) k)) z ∙ ap value_in (sym (latest_below p (chains_row s) s.tally.sealed row_long))

  module _ (slot : ℕ) (found : Some slot ≡ later_slot s.slots.items 0 (last_place p (chains_row s) s.tally.sealed)) where
    pub slot_found : slot < length s.records.items
    slot_found =
        let place = later_found _ _ _ slot found in
        let fits = s.tally.fits in
        let whole = s.whole in
        let memory = s.memory in
        let inside : last_place p (chains_row s) s.tally.sealed - 1 < length s.slots.items = omega (arith, low, place.0) in
        omega (arith, place.1, s.below _ inside)

    pub value_read : (r : Record) → r ≡ get_or s.records.items slot r → value_of r.change ≡ value_in (latest p (take s.tally.sealed (chains_row s)))
    value_read r e =
        let place = later_found _ _ _ slot found in
        let fits = s.tally.fits in
        let whole = s.whole in
        let last = last_place p (chains_row s) s.tally.sealed in
        let inside : last_place p (chains_row s) s.tally.sealed - 1 < length s.slots.items = omega (arith, low, place.0) in
        let read : get_or (chains_row s) (last_place p (chains_row s) s.tally.sealed - 1) blank ≡ r =
        laid_at s.records.items s.slots.items (last - 1) inside
        ∙ ap (λ o. get_or s.records.items o blank) (sym place.1)
        ∙ get_or_default s.records.items slot blank r slot_found
        ∙ sym e in
        ap (λ x. value_of x.change) (sym read)
        ∙ ap value_in (sym (at_place_here (chains_row s) last blank place.0 (omega (arith, low, row_long))))
        ∙ ap value_in (sym (latest_below p (chains_row s) s.tally.sealed row_long))

-- what is found in chains is found in their records
pub same_found : (s : Chains) (l : Linked) (p : Record → Bool) → l.row.records.now ≡ s.records.items → l.row.slots.now ≡ s.slots.items → l.count ≡ s.tally.sealed →
    later_slot l.row.slots.now 0 (last_place p (linked_row l) l.count) ≡ later_slot s.slots.items 0 (last_place p (chains_row s) s.tally.sealed)
same_found s l p a b e = rw (a, b, e)

-- the marks of the records in use, as the slices show them
pub marks_shown : (s : Chains) (l : Linked) (to : ℕ) (gs : List Bool) → l.row.records.now ≡ s.records.items → l.row.slots.now ≡ s.slots.items → l.count ≡ s.tally.sealed →
    gs ≡ replaced to (take l.count (linked_row l)) ++ drop l.count (replicate 4096 false) →
    take (s.tally.sealed + s.tally.staged - 0) gs ≡ take (s.tally.sealed + s.tally.staged) (replaced to (take s.tally.sealed (chains_row s)) ++ drop s.tally.sealed (replicate 4096 false))
marks_shown s l to gs a b e m = front_part _ gs (s.tally.sealed + s.tally.staged) m ∙ rw (a, b, e)

-- one mark more: x is the record at place i, and `found` is what was found behind it
pub mark_found : (s : Linked) (to i : ℕ) (fs gs : List Bool) (x : Record) (found : Option ℕ) → i < s.count → i < length fs →
    get_or (linked_row s) i blank ≡ x →
    found ≡ later_slot s.row.slots.now (i + 1) (last_place (matches x.item to) (linked_row s) s.count) →
    gs ≡ take i (replaced to (take s.count (linked_row s))) ++ drop i fs →
    set gs i (is_some found) ≡ take (i + 1) (replaced to (take s.count (linked_row s))) ++ drop (i + 1) fs
mark_found s to i fs gs x found h g here f before =
    let n = s.count in
    let row = linked_row s in
    let rs = take s.count (linked_row s) in
    let long = linked_long s in
    let inside : i < length (take s.count (linked_row s)) = omega (arith, length-take-le n row long) in
    let same : get_or (take s.count (linked_row s)) i blank ≡ x = get_or-take n row i blank h ∙ here in
    let mark : is_some found ≡ get_or (replaced to (take s.count (linked_row s))) i false =
    ap is_some f
    ∙ is_later s.row.slots.now (i + 1) (last_place (matches x.item to) row n)
    ∙ ap (ltb (i + 1)) (sym (place_taken (matches x.item to) row n long))
    ∙ ap (λ y. ltb (i + 1) (last_place (matches y.item to) rs (length rs))) (sym same)
    ∙ mark_here to rs i blank inside in
    ap (set gs i) mark
    ∙ marks_more (replaced to rs) fs gs i (omega (arith, length_replaced to rs)) g before

pub marks_all : (s : Linked) (to i : ℕ) (fs gs : List Bool) → i ≤ s.count → s.count ≤ i →
    gs ≡ take i (replaced to (take s.count (linked_row s))) ++ drop i fs →
    gs ≡ replaced to (take s.count (linked_row s)) ++ drop s.count fs
marks_all s to i fs gs h l e =
    let n : i ≡ s.count = omega arith in
    let long = linked_long s in
    let rs = take s.count (linked_row s) in
    e ∙ ap (λ zs. zs ++ drop i fs) (take_all i (replaced to rs) (omega (arith, length_replaced to rs, length-take-le s.count (linked_row s) long))) ∙ ap (λ k. replaced to rs ++ drop k fs) n

-- Stage: r is written to the slot at place i, which no sealed record has

module _ (s : Chains) (i slot : ℕ) (r : Record) (inside : i < length s.slots.items) (is : slot ≡ get_or s.slots.items i 0) where
  pub staged_row : laid (set s.records.items slot r) s.slots.items ≡ set (chains_row s) i r
  staged_row =
      let memory = s.memory in
      ap (λ o. laid (set s.records.items o r) s.slots.items) is
      ∙ laid_set s.records.items s.slots.items i r s.apart inside (omega (arith, s.below i inside))

  pub staged_chain : s.tally.sealed ≤ i → ChainSound (set s.records.items slot r) s.slots.items s.next.items s.heads (one_staged (counts s.tally))
  staged_chain h =
      let row = laid (set s.records.items slot r) s.slots.items in
      let same : (k : ℕ) → k < s.tally.sealed → get_or (chains_row s) k blank ≡ get_or (laid (set s.records.items slot r) s.slots.items) k blank =
      λ k l. sym (get_or-set_other (chains_row s) i k r blank (λ q. omega arith)) ∙ ap (λ xs. get_or xs k blank) (sym staged_row) in
      record {
        whole = s.whole;
        memory = simp length-set s.memory;
        links = s.links;
        below = s.below;
        apart = s.apart;
        linked = slot_nexts_same (chains_row s) row s.slots.items s.tally.sealed same s.next.items s.linked;
        topped = slot_tops_same (chains_row s) row s.slots.items s.tally.sealed same s.heads s.topped;
      }

-- Prune: ps are the slots afterwards, in another order, and the first k of them are those of the sealed records

module _ (s : Chains) (ps : List ℕ) (shuffled : IsPermutation s.slots.items ps) where
  pub shuffled_long : length ps ≡ length s.slots.items
  shuffled_long = length_permutation s.slots.items ps shuffled

  pub shuffled_below : Below (length ps) ps
  shuffled_below =
      subst (λ n. Below n ps) (sym shuffled_long) (below_shuffled (length s.slots.items) s.slots.items ps shuffled s.below)

  pub shuffled_apart : Apart ps
  shuffled_apart = apart_shuffled s.slots.items ps shuffled s.apart

  -- gs are the marks of the records in use, and r of those are left
  module _ (to r : ℕ) (gs : List Bool)
      (marks : gs ≡ take (s.tally.sealed + s.tally.staged) (replaced to (take s.tally.sealed (chains_row s)) ++ drop s.tally.sealed (replicate 4096 false)))
      (bound : r ≤ length ps) (left : take r ps ≡ unmarked gs (take (length gs) s.slots.items)) where
    many : length (replaced to (take s.tally.sealed (chains_row s))) ≡ s.tally.sealed
    many =
        let fits = s.tally.fits in
        let whole = s.whole in
        length_replaced to (take s.tally.sealed (chains_row s))
        ∙ length-take-le s.tally.sealed (chains_row s) (omega (arith, laid_long s.records.items s.slots.items))

    row : s.tally.sealed + s.tally.staged ≤ length s.slots.items
    row = let fits = s.tally.fits in let whole = s.whole in omega arith

    within : s.tally.sealed + s.tally.staged ≤ 4096
    within = let fits = s.tally.fits in let small = s.tally.small in omega arith

    front : take (r - s.tally.staged) (laid s.records.items ps) ≡ pruned to (take s.tally.sealed (chains_row s))
    front =
        let n = s.tally.sealed in
        let t = s.tally.staged in
        let ms = replaced to (take s.tally.sealed (chains_row s)) in
        closed_front s.records.items s.slots.items ps to n (r - t) t
        (left_front ms gs 4096 s.slots.items ps n t r marks many row within bound left)
        (left_behind ms gs 4096 s.slots.items ps n t r marks many row within bound left)

    behind : take s.tally.staged (drop (r - s.tally.staged) (laid s.records.items ps)) ≡ take s.tally.staged (drop s.tally.sealed (chains_row s))
    behind =
        let n = s.tally.sealed in
        let t = s.tally.staged in
        let ms = replaced to (take s.tally.sealed (chains_row s)) in
        closed_behind s.records.items s.slots.items ps to n (r - t) t
        (left_front ms gs 4096 s.slots.items ps n t r marks many row within bound left)
        (left_behind ms gs 4096 s.slots.items ps n t r marks many row within bound left)

    long : length (laid s.records.items ps) ≡ length (chains_row s)
    long = laid_long s.records.items ps ∙ shuffled_long ∙ sym (laid_long s.records.items s.slots.items)

    pub closed_staged : s.tally.staged ≤ r
    closed_staged =
        omega (arith, left_long (replaced to (take s.tally.sealed (chains_row s))) gs 4096 s.slots.items ps s.tally.sealed s.tally.staged r marks many row within bound left)

    pub closed_model : row_model (laid s.records.items ps) (a_counts s.tally.capacity s.tally.version (r - s.tally.staged) s.tally.staged) ≡ pruned_to to (chains_model s)
    closed_model = row_pruned _ _ (tally_sound s.tally) (chains_sound s) to (laid s.records.items ps) (r - s.tally.staged) long front behind

    pub closed_sound : RowSound (laid s.records.items ps) (a_counts s.tally.capacity s.tally.version (r - s.tally.staged) s.tally.staged)
    closed_sound = pruned_sound _ _ (tally_sound s.tally) (chains_sound s) to (laid s.records.items ps) (r - s.tally.staged) long front behind

-- A fresh store: its slots are those below the capacity, in order

pub fresh_sound : (xs : List Record) (os ns hs : List ℕ) (c : ℕ) → os ≡ range_with_len 0 c → c ≤ length xs → c ≤ length ns →
    ((b : ℕ) → b < 64 → get_or hs b 0 ≡ 0) → ChainSound xs os ns hs (a_counts c 0 0 0)
fresh_sound xs os ns hs c e memory links tops =
    let long : length os ≡ c = ap length e ∙ length-range_with_len 0 c in
    record {
      whole = long;
      memory = omega arith;
      links = omega arith;
      below = subst (λ zs. Below (length zs) zs) (sym e) (counting_below c);
      apart = subst Apart (sym e) (counting_apart c);
      linked = λ i l. absurd (omega arith);
      topped = tops;
    }

pub fresh_row : (xs : List Record) (os : List ℕ) (c : ℕ) → os ≡ range_with_len 0 c → RowSound (laid xs os) (a_counts c 0 0 0)
fresh_row xs os c e =
    let long : length os ≡ c = ap length e ∙ length-range_with_len 0 c in
    record { room = omega (arith, laid_long xs os); past = refl; coming = refl }
