-- Records in the order of their slots: what a change of the records or of the slots makes of it.
use Rattle.std.proofs.Common.{◌≡◌, ℕ, ◌%◌, ◌-◌, ◌<◌, ◌≤◌, Bool, true, false, cond, eqb, ltb, List, Option, Some, None, is_some, [], ◌∷◌, length, get_or, take, drop, set, sym, refl, ap, ◌∙◌, ⊎_elim, arith, rules}
use Rattle.std.specs.List.{range_with_len, swap}
use Rattle.std.specs.List.Sorted.{IsPermutation}
use Rattle.std.proofs.lemmas.List.FromFn.{length-range_with_len, get_or-range_with_len, take-map-range_with_len, fill_by_all}
use Rattle.std.proofs.ByRecursion.{All-from_get_or, All-get_or, all_shuffled}
use Rattle.std.proofs.lemmas.List.{get_or-set_same, get_or-set_other, get_or_default, length-set, ext_get_or, take-map, drop-map, map-id, length-take-le, get_or-take}
use Rattle.std.proofs.lemmas.List.Sorted.{IsPermutation-keeps}
use Rattle.std.proofs.lemmas.Bool.{cases_eq, cases_lt, eq-eqb, ne_eqb, lt-ltb, le-ltb}
use Rattle.std.proofs.lemmas.Bool.Decides.{nat_tests}
use Rattle.store.specs.declared.records.Record.{Record}
use Rattle.store.specs.Rows.{blank, last_place, replaced, unmarked}
use Rattle.store.specs.Slots.{laid, link_to, later_slot, Below, Apart, SlotNexts, SlotTops}
use Rattle.store.specs.Links.{chain_at, in_chain}
use Rattle.store.specs.StoreModel.{pruned}
use Rattle.store.proofs.Marks.{unmarked_replaced}
use Rattle.store.proofs.Places.{place_agree}
use Rattle.store.proofs.SlotWalks.{laid_at}
use Rattle.store.specs.ChainsRow.{laid_long}

-- The slots below n, in order

pub counting_below : (n : ℕ) → Below (length (range_with_len 0 n)) (range_with_len 0 n)
counting_below n i h =
    let l = length-range_with_len 0 n in
    let e = get_or-range_with_len 0 n i 0 (omega arith) in
    omega arith

pub counting_apart : (n : ℕ) → Apart (range_with_len 0 n)
counting_apart n i j h =
    let l = length-range_with_len 0 n in
    let a = h.0 in
    let b = h.1 in
    let e = get_or-range_with_len 0 n i 0 (omega arith) in
    let f = get_or-range_with_len 0 n j 0 (omega arith) in
    omega (arith, h.2)

pub counting_front : (n m : ℕ) → n ≤ m → take n (range_with_len 0 m) ≡ range_with_len 0 n
counting_front n m h = ap (take n) (sym (map-id (range_with_len 0 m))) ∙ take-map-range_with_len (λ x. x) 0 m n h ∙ map-id (range_with_len 0 n)

-- records in slots that are their places
pub laid_counting : (rs : List Record) → laid rs (range_with_len 0 (length rs)) ≡ rs
laid_counting rs = sym (fill_by_all (λ o. get_or rs o blank) rs (length rs) blank refl (λ k l. refl))

-- A record written to its slot

pub laid_set : (rs : List Record) (os : List ℕ) (i : ℕ) (r : Record) → Apart os → i < length os → get_or os i 0 < length rs →
    laid (set rs (get_or os i 0) r) os ≡ set (laid rs os) i r
laid_set rs os i r apart h l =
    let o = get_or os i 0 in
    ext_get_or blank (laid (set rs o r) os) (set (laid rs os) i r)
    (laid_long (set rs o r) os ∙ sym (laid_long rs os) ∙ sym (length-set (laid rs os) i r))
    (λ k m.
    let inside : k < length os = omega (arith, laid_long (set rs (get_or os i 0) r) os) in
    laid_at (set rs o r) os k inside
    ∙ ⊎_elim
    (λ e. rw e (get_or-set_same rs o r blank l ∙ sym (get_or-set_same (laid rs os) i r blank (omega (arith, laid_long rs os)))))
    (λ e.
    get_or-set_other rs o (get_or os k 0) r blank (λ q. e (apart k i (inside, h, q)))
    ∙ sym (laid_at rs os k inside)
    ∙ sym (get_or-set_other (laid rs os) i k r blank e))
    (cases_eq k i))

-- Slots that were exchanged

abbrev traded : ℕ → ℕ → ℕ → ℕ
traded a b k = cond (eqb k b) a (cond (eqb k a) b k)

traded_apart : (a b i j : ℕ) → traded a b i ≡ traded a b j → i ≡ j
traded_apart a b i j e = grind (arith, nat_tests)

traded_below : (a b k n : ℕ) → a < n → b < n → k < n → traded a b k < n
traded_below a b k n p q r = grind (arith, nat_tests)

exchanged_at : (os : List ℕ) (a b k : ℕ) → a < length os → b < length os → k < length os → get_or (swap os a b) k 0 ≡ get_or os (traded a b k) 0
exchanged_at [] a b k p q r = absurd (omega arith)
exchanged_at (o ∷ os) a b k p q r =
    let l = o ∷ os in
    let x = get_or (o ∷ os) b o in
    let y = get_or (o ∷ os) a o in
    let long = length-set (o ∷ os) a (get_or (o ∷ os) b o) in
    ⊎_elim
    (λ e. rw (eq-eqb k b e, e) (get_or-set_same (set l a x) b y 0 (omega arith) ∙ get_or_default l a o 0 p))
    (λ e. rw (ne_eqb k b e) (get_or-set_other (set l a x) b k y 0 e ∙ ⊎_elim
    (λ f. rw (eq-eqb k a f, f) (get_or-set_same l a x 0 p ∙ get_or_default l b o 0 q))
    (λ f. rw (ne_eqb k a f) (get_or-set_other l a k x 0 f))
    (cases_eq k a)))
    (cases_eq k b)

length_exchanged : (os : List ℕ) (a b : ℕ) → length (swap os a b) ≡ length os
length_exchanged [] a b = refl
length_exchanged (o ∷ os) a b = length-set (set (o ∷ os) a (get_or (o ∷ os) b o)) b (get_or (o ∷ os) a o) ∙ length-set (o ∷ os) a (get_or (o ∷ os) b o)

pub apart_shuffled : (os ps : List ℕ) → IsPermutation os ps → Apart os → Apart ps
apart_shuffled os ps s apart =
    IsPermutation-keeps os Apart apart
    (λ l a b p q before i j h.
    let n = length_exchanged l a b in
    let i-in : i < length l = omega (arith, h.0) in
    let j-in : j < length l = omega (arith, h.1) in
    traded_apart a b i j (before (traded a b i) (traded a b j) (
      traded_below a b i (length l) p q i-in,
      traded_below a b j (length l) p q j-in,
      sym (exchanged_at l a b i p q i-in) ∙ h.2 ∙ exchanged_at l a b j p q j-in,
    )))
    ps s

pub below_shuffled : (n : ℕ) (os ps : List ℕ) → IsPermutation os ps → Below n os → Below n ps
below_shuffled n os ps s below i h =
    All-get_or (λ o. o < n) ps i 0 h (all_shuffled (λ o. o < n) os ps s (All-from_get_or (λ o. o < n) os 0 below))

-- Slots that were closed up: os before and ps afterwards, with k of the first n left

module _ (rs : List Record) (os ps : List ℕ) (h n k t : ℕ)
    (front : take k ps ≡ unmarked (replaced h (take n (laid rs os))) (take n os)) (behind : take t (drop k ps) ≡ take t (drop n os)) where
  laid_unmarked : (fs : List Bool) (qs : List ℕ) → laid rs (unmarked fs qs) ≡ unmarked fs (laid rs qs)
  laid_unmarked [] qs = refl
  laid_unmarked (f ∷ fs) [] = refl
  laid_unmarked (f ∷ fs) (q ∷ qs) =
      elim f as (λ b. laid rs (cond b (unmarked fs qs) (q ∷ unmarked fs qs)) ≡ cond b (unmarked fs (laid rs qs)) (get_or rs q blank ∷ unmarked fs (laid rs qs))) [
        | true ↦ laid_unmarked fs qs
        | false ↦ ap (λ l. get_or rs q blank ∷ l) (laid_unmarked fs qs)
      ]

  pub closed_front : take k (laid rs ps) ≡ pruned h (take n (laid rs os))
  closed_front =
      let marks = replaced h (take n (laid rs os)) in
      take-map (λ o. get_or rs o blank) k ps
      ∙ ap (laid rs) front
      ∙ laid_unmarked marks (take n os)
      ∙ ap (unmarked marks) (sym (take-map (λ o. get_or rs o blank) n os))
      ∙ unmarked_replaced h (take n (laid rs os))

  pub closed_behind : take t (drop k (laid rs ps)) ≡ take t (drop n (laid rs os))
  closed_behind =
      ap (take t) (drop-map (λ o. get_or rs o blank) k ps)
      ∙ take-map (λ o. get_or rs o blank) t (drop k ps)
      ∙ ap (laid rs) behind
      ∙ sym (take-map (λ o. get_or rs o blank) t (drop n os))
      ∙ ap (take t) (sym (drop-map (λ o. get_or rs o blank) n os))

-- A record is replaced exactly when a later one is found

none_some : (x : ℕ) → ◌≡◌ {A = Option ℕ} None (Some x) → ⊥
none_some x e = search rules

some_same : (x y : ℕ) → Some x ≡ Some y → x ≡ y
some_same x y e = search rules

pub is_later : (os : List ℕ) (n last : ℕ) → is_some (later_slot os n last) ≡ ltb n last
is_later os n last = elim (ltb n last) as (λ b. is_some (cond b (Some (get_or os (last - 1) 0)) None) ≡ b) [ true ↦ refl | false ↦ refl ]

pub later_none : (os : List ℕ) (n last : ℕ) → None ≡ later_slot os n last → last ≤ n
later_none os n last e =
    ⊎_elim
    (λ h. absurd (none_some (get_or os (last - 1) 0) (e ∙ rw (lt-ltb n last h))))
    (λ h. h)
    (cases_lt n last)

pub later_found : (os : List ℕ) (n last slot : ℕ) → Some slot ≡ later_slot os n last → (n < last) × (slot ≡ get_or os (last - 1) 0)
later_found os n last slot e =
    ⊎_elim
    (λ h. (h, some_same slot (get_or os (last - 1) 0) (e ∙ rw (lt-ltb n last h))))
    (λ h. absurd (none_some slot (sym (e ∙ rw (le-ltb n last h)))))
    (cases_lt n last)

pub place_taken : (p : Record → Bool) (rs : List Record) (n : ℕ) → n ≤ length rs → last_place p (take n rs) (length (take n rs)) ≡ last_place p rs n
place_taken p rs n h = rw (length-take-le n rs h) (place_agree p (take n rs) rs n (λ k l. get_or-take n rs k blank l))

-- Links of records of which the first n are the same

module _ (rs ss : List Record) (os : List ℕ) (n : ℕ) (same : (k : ℕ) → k < n → get_or rs k blank ≡ get_or ss k blank) where
  pub slot_nexts_same : (ns : List ℕ) → SlotNexts rs os ns n → SlotNexts ss os ns n
  slot_nexts_same ns all i h =
      all i h
      ∙ ap (λ r. link_to os (last_place (λ x. eqb (x.item % 64) (r.item % 64)) rs i)) (same i h)
      ∙ ap (link_to os) (place_agree (in_chain (chain_at ss i)) rs ss i (λ k l. same k (omega arith)))

  pub slot_tops_same : (hs : List ℕ) → SlotTops rs os hs n → SlotTops ss os hs n
  slot_tops_same hs all b h = all b h ∙ ap (link_to os) (place_agree (in_chain b) rs ss n same)
