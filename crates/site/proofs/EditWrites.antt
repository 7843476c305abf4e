-- An edit's writes with one set or replaced.
use Rattle.std.proofs.Common.{◌≡◌, Less, Equal, Greater, eqb, Some, None, Option, ℕ, zero, suc, ◌+◌, ◌<◌, ◌≤◌, Bool, true, false, cond, leb, ltb, List, [], ◌∷◌, ◌++◌, length, get_or, take, drop, set, sym, refl, ap, subst, ◌∙◌, inl, inr, arith}
use Rattle.std.specs.List.{insert, HoldsAt, find}
use Rattle.std.specs.Option.{option_map}
use Rattle.std.specs.Borrow.{Bor}
use Rattle.std.specs.List.Sorted.{IsPartitionPoint, IsNonDecreasingBy}
use Rattle.std.specs.Ordering.{nat_cmp, ordering_index}
use Rattle.std.proofs.lemmas.Cmp.{ranked}
use Rattle.std.proofs.lemmas.List.Sorted.{IsNonDecreasingBy-from_default}
use Rattle.std.proofs.lemmas.List.Edits.{length-insert}
use Rattle.std.proofs.lemmas.Bool.Decides.{nat_tests}
use Rattle.few.specs.Lists.{has_room, inserted}
use Rattle.std.proofs.lemmas.Bool.{ltb-true, ltb-false, eq-eqb, ne_eqb, lt-ltb, le-ltb, le-leb, lt-leb, leb-true, and_parts, and_from, cases_order}
use Rattle.words.specs.declared.changes.Change.{Change}
use Rattle.words.specs.declared.changes.Write.{Write}
use Rattle.words.specs.Writes.{write_fits, fit_from}
use Rattle.site.specs.Edits.{an_edit_of, own_change, with_write, put_write}

-- the change of the first write to the item
own_by : (b : Bool) (w : Write) (o : Option Change) (p : Option Write) → option_map (λ v. v.change) p ≡ o →
    option_map (λ v. v.change) (cond b (Some w) p) ≡ cond b (Some w.change) o
own_by true w o p e = refl
own_by false w o p e = e

own_found : (l : List Write) (x : ℕ) → option_map (λ v. v.change) (find (λ w. eqb w.item x) l) ≡ own_change l x
own_found [] x = refl
own_found (w ∷ l) x = own_by (eqb w.item x) w (own_change l x) (find (λ v. eqb v.item x) l) (own_found l x)

changed : (r : Option (Bor Write)) → option_map (λ b. b.now.change) r ≡ option_map (λ v. v.change) (option_map (λ b. b.now) r)
changed None = refl
changed (Some b) = refl

pub own_from_find : (l : List Write) (x : ℕ) (r : Option (Bor Write)) → option_map (λ b. b.now) r ≡ find (λ w. eqb w.item x) l →
    option_map (λ b. b.now.change) r ≡ own_change l x
own_from_find l x r e = changed r ∙ ap (option_map (λ v. v.change)) e ∙ own_found l x

-- how many of the writes are to lower items
abbrev pub rank : List Write → ℕ → ℕ
rank [] x = 0
rank (w ∷ l) x = cond (ltb w.item x) (suc (rank l x)) 0

-- the three ways that a first write can stand to the one that is put
module _ (x : Write) (l : List Write) (w : Write) where
  with_equal : x.item ≡ w.item → with_write (x ∷ l) w ≡ w ∷ l
  with_equal e = simp (eq-eqb x.item w.item e)

  with_below : w.item < x.item → with_write (x ∷ l) w ≡ w ∷ (x ∷ l)
  with_below h = simp (ne_eqb x.item w.item (λ e. omega arith), lt-ltb w.item x.item h)

  with_above : x.item < w.item → with_write (x ∷ l) w ≡ x ∷ with_write l w
  with_above h = simp (ne_eqb x.item w.item (λ e. omega arith), le-ltb w.item x.item (omega arith))

  rank_above : x.item < w.item → rank (x ∷ l) w.item ≡ suc (rank l w.item)
  rank_above h = simp (lt-ltb x.item w.item h)

  rank_stop : w.item ≤ x.item → rank (x ∷ l) w.item ≡ 0
  rank_stop h = simp (le-ltb x.item w.item h)

-- a write that replaces the one at its rank, and one that goes in there
abbrev pub PlacedAt : List Write → Write → Write → Type 0
PlacedAt l w d = (rank l w.item < length l → (get_or l (rank l w.item) d).item ≡ w.item → with_write l w ≡ set l (rank l w.item) w)
    × ((rank l w.item < length l → (get_or l (rank l w.item) d).item ≡ w.item → ⊥) → with_write l w ≡ take (rank l w.item) l ++ (w ∷ drop (rank l w.item) l))

pub placed_at : (l : List Write) (w d : Write) → PlacedAt l w d
placed_at [] w d = ((λ h e. absurd (omega arith)), λ n. refl)
placed_at (x ∷ l) w d =
    elim (cases_order x.item w.item) [
      | inl e ↦ (let r = rank_stop x l w (omega arith) in let k = with_equal x l w e in
          ((λ h f. k ∙ simp r), λ n. absurd (n (simp r (omega arith)) (simp r e))))
      | inr o ↦ elim o [
        | inl h ↦ (let r = rank_above x l w h in let k = with_above x l w h in let q = placed_at l w d in (
          (λ g f. k ∙ ap (λ m. x ∷ m) (q.0 (omega arith) (rw r at f)) ∙ simp r),
          λ n. k ∙ ap (λ m. x ∷ m) (q.1 (λ g f. n (omega arith) (simp r f))) ∙ simp r,
        ))
        | inr h ↦ (let r = rank_stop x l w (omega arith) in let k = with_below x l w h in
            ((λ g f. absurd (let e : x.item ≡ w.item = rw r at f in omega arith)), λ n. k ∙ simp r))
      ]
    ]

-- writes in range and in order stay so
from_low : (low : ℕ) (w : Write) → low ≤ w.item → write_fits 0 w ≡ true → write_fits low w ≡ true
from_low low w h g = and_from _ _ (le-leb low w.item h) (and_parts (leb 0 w.item) _ g).1

to_zero : (low : ℕ) (w : Write) → write_fits low w ≡ true → write_fits 0 w ≡ true
to_zero low w g = and_from _ _ (le-leb 0 w.item (omega arith)) (and_parts (leb low w.item) _ g).1

pub fit_with : (low : ℕ) (l : List Write) (w : Write) → fit_from low l ≡ true → low ≤ w.item → write_fits 0 w ≡ true → fit_from low (with_write l w) ≡ true
fit_with low [] w f h g = and_from _ _ (from_low low w h g) refl
fit_with low (x ∷ l) w f h g =
    let a = and_parts (write_fits low x) (fit_from (suc x.item) l) f in
    elim (cases_order x.item w.item) [
      | inl e ↦ (ap (fit_from low) (with_equal x l w e) ∙ and_from _ _ (from_low low w h g) (ap (λ n. fit_from (suc n) l) (sym e) ∙ a.1))
      | inr o ↦ elim o [
        | inl k ↦ (ap (fit_from low) (with_above x l w k) ∙ and_from _ _ a.0 (fit_with (suc x.item) l w a.1 k g))
        | inr k ↦ (ap (fit_from low) (with_below x l w k) ∙ and_from _ _ (from_low low w h g) (and_from _ _ (from_low (suc w.item) x k (to_zero low x a.0)) a.1))
      ]
    ]

-- a place with lower items before it, and none from it on, is the rank
module _ (x : ℕ) where
  pub rank_gap : (l : List Write) (i : ℕ) (d : Write) → i ≤ length l → ((k : ℕ) → k < i → (get_or l k d).item < x) →
      ((k : ℕ) → i ≤ k → k < length l → x ≤ (get_or l k d).item) → rank l x ≡ i
  rank_gap [] i d h lo hi = omega arith
  rank_gap (w ∷ l) zero d h lo hi = ap (λ b. cond b (suc (rank l x)) 0) (le-ltb w.item x (hi 0 (omega arith) (omega arith)))
  rank_gap (w ∷ l) (suc i) d h lo hi =
      ap (λ b. cond b (suc (rank l x)) 0) (lt-ltb w.item x (lo 0 (omega arith)))
      ∙ ap suc (rank_gap l i d (omega arith) (λ k f. lo (suc k) (omega arith)) (λ k f g. hi (suc k) (omega arith) (omega arith)))

-- items rise, one to a write
above : (low : ℕ) (l : List Write) (k : ℕ) (d : Write) → fit_from low l ≡ true → k < length l → low ≤ (get_or l k d).item
above low [] k d f h = absurd (omega arith)
above low (w ∷ l) zero d f h = leb-true low w.item (and_parts (leb low w.item) _ (and_parts (write_fits low w) (fit_from (suc w.item) l) f).0).0
above low (w ∷ l) (suc k) d f h =
    let a = and_parts (write_fits low w) (fit_from (suc w.item) l) f in
    let p = leb-true low w.item (and_parts (leb low w.item) _ a.0).0 in
    let q = above (suc w.item) l k d a.1 (omega arith) in
    omega arith

pub rising : (low : ℕ) (l : List Write) (i j : ℕ) (d : Write) → fit_from low l ≡ true → i < j → j < length l → (get_or l i d).item < (get_or l j d).item
rising low [] i j d f h k = absurd (omega arith)
rising low (w ∷ l) i zero d f h k = absurd (omega arith)
rising low (w ∷ l) zero (suc j) d f h k =
    let q = above (suc w.item) l j d (and_parts (write_fits low w) (fit_from (suc w.item) l) f).1 (omega arith) in omega arith
rising low (w ∷ l) (suc i) (suc j) d f h k = rising (suc w.item) l i j d (and_parts (write_fits low w) (fit_from (suc w.item) l) f).1 (omega arith) (omega arith)

module _ (l : List Write) (w : Write) (orderly : fit_from 0 l ≡ true) where
  ranked_at : (i : ℕ) → i < length l → (get_or l i w).item ≡ w.item → rank l w.item ≡ i
  ranked_at i h e =
      rank_gap w.item l i w (omega arith) (λ k f. let q = rising 0 l k i w orderly f h in omega arith)
      (λ k f g. elim (cases_order i k) [
        | inl q ↦ (omega (arith, ap (λ n. (get_or l n w).item) q, e))
        | inr o ↦ elim o [
          | inl q ↦ (let r = rising 0 l i k w orderly q g in omega arith)
          | inr q ↦ (absurd (omega arith))
        ]
      ])

  -- the comparisons with the item rise along the writes, as a binary search asks
  comparisons_rise : IsNonDecreasingBy (λ y. ordering_index (nat_cmp y.item w.item)) l
  comparisons_rise = IsNonDecreasingBy-from_default (λ y. ordering_index (nat_cmp y.item w.item)) l w (λ i j le within.
      let items_rise : (get_or l i w).item ≤ (get_or l j w).item =
      grind (arith, λ (lt : i < j). rising 0 l i j w orderly lt within, λ (same : i ≡ j). ap (λ n. (get_or l n w).item) same) in
      grind (arith, nat_tests))

  -- a binary search that found the item, and one that did not
  with_replaced : (i : ℕ) → i < length l → HoldsAt (λ y. nat_cmp y.item w.item ≡ Equal) l i → with_write l w ≡ set l i w
  with_replaced i h found =
      let e : (get_or l i w).item ≡ w.item = ranked _ w.item _ (sym (found w)) in
      let r = ranked_at i h e in
      (placed_at l w w).0 (omega arith) (ap (λ n. (get_or l n w).item) r ∙ e) ∙ ap (λ n. set l n w) r

  with_inserted : (i : ℕ) → i ≤ length l → (IsNonDecreasingBy (λ y. ordering_index (nat_cmp y.item w.item)) l →
      IsPartitionPoint (λ y. nat_cmp y.item w.item ≡ Less) (λ y. nat_cmp y.item w.item ≡ Greater) l i) → with_write l w ≡ insert l i w
  with_inserted i h parted =
      let lower : (k : ℕ) → k < i → (get_or l k w).item < w.item = λ k f. ranked _ w.item _ (sym ((parted comparisons_rise).0 k w (omega arith) f)) in
      let higher : (k : ℕ) → i ≤ k → k < length l → w.item < (get_or l k w).item = λ k f g. ranked _ w.item _ (sym ((parted comparisons_rise).1 k w f g)) in
      let r = rank_gap w.item l i w h lower (λ k f g. let q = higher k f g in omega arith) in
      (placed_at l w w).1 (λ f e. let q = higher (rank l w.item) (omega arith) f in omega arith) ∙ ap (λ n. insert l n w) r

-- the same of the writes as they are handed on
module _ (held l : List Write) (w : Write) (same : held ≡ l) (orderly : fit_from 0 l ≡ true) (i : ℕ) where
  pub found_at : i < length held → HoldsAt (λ y. nat_cmp y.item w.item ≡ Equal) held i → with_write l w ≡ set l i w
  found_at = subst (λ k. i < length k → HoldsAt (λ y. nat_cmp y.item w.item ≡ Equal) k i → with_write l w ≡ set l i w) (sym same) (with_replaced l w orderly i)

  pub gap_at : i ≤ length held → (IsNonDecreasingBy (λ y. ordering_index (nat_cmp y.item w.item)) held →
      IsPartitionPoint (λ y. nat_cmp y.item w.item ≡ Less) (λ y. nat_cmp y.item w.item ≡ Greater) held i) → with_write l w ≡ insert l i w
  gap_at =
      subst (λ k. i ≤ length k → (IsNonDecreasingBy (λ y. ordering_index (nat_cmp y.item w.item)) k →
      IsPartitionPoint (λ y. nat_cmp y.item w.item ≡ Less) (λ y. nat_cmp y.item w.item ≡ Greater) k i) → with_write l w ≡ insert l i w) (sym same) (with_inserted l w orderly i)

-- the answer, and what is left
put_by : (b : Bool) (t s : ℕ) (l k : List Write) (w : Write) → with_write l w ≡ k → leb (length k) 16 ≡ b →
    put_write (an_edit_of t s l) w ≡ cond b (true, an_edit_of t s k) (false, an_edit_of t s l)
put_by b t s l k w e f =
    ap (λ m. cond (leb (length m) 16) (true, an_edit_of t s m) (false, an_edit_of t s l)) e
    ∙ ap (λ c. cond c (true, an_edit_of t s k) (false, an_edit_of t s l)) f

pub put_taken : (t s : ℕ) (l k : List Write) (w : Write) → with_write l w ≡ k → length k ≤ 16 → (true, an_edit_of t s k) ≡ put_write (an_edit_of t s l) w
put_taken t s l k w e h = sym (put_by true t s l k w e (le-leb (length k) 16 h))

pub put_declined : (t s : ℕ) (l k : List Write) (w : Write) → with_write l w ≡ k → 16 < length k → (false, an_edit_of t s l) ≡ put_write (an_edit_of t s l) w
put_declined t s l k w e h = sym (put_by false t s l k w e (lt-leb (length k) 16 h))

-- a write put in at the place that the search gave, where there is room
module _ (l k : List Write) (i : ℕ) (w : Write) (e : with_write l w ≡ insert l i w) (h : i ≤ length l) where
  longer : length (insert l i w) ≡ length l + 1
  longer = length-insert l i w h

  fit_by : (b : Bool) → k ≡ cond b (insert l i w) l → fit_from 0 l ≡ true → write_fits 0 w ≡ true → fit_from 0 k ≡ true
  fit_by true f o g = ap (fit_from 0) (f ∙ sym e) ∙ fit_with 0 l w o (omega arith) g
  fit_by false f o g = ap (fit_from 0) f ∙ o

  pub fit_inserted : k ≡ inserted 16 l i w → fit_from 0 l ≡ true → write_fits 0 w ≡ true → fit_from 0 k ≡ true
  fit_inserted = fit_by (ltb (length l) 16)

  inserted_by : (b : Bool) (t s : ℕ) → ltb (length l) 16 ≡ b → k ≡ cond b (insert l i w) l → (b, an_edit_of t s k) ≡ put_write (an_edit_of t s l) w
  inserted_by true t s q f = put_taken t s l k w (e ∙ sym f) (omega (arith, longer, ap length f, ltb-true (length l) 16 q))
  inserted_by false t s q f = ap (λ m. (false, an_edit_of t s m)) f ∙ put_declined t s l (insert l i w) w e (omega (arith, longer, ltb-false (length l) 16 q))

  pub put_inserted : (t s : ℕ) (b : Bool) → b ≡ has_room 16 l → k ≡ inserted 16 l i w → (b, an_edit_of t s k) ≡ put_write (an_edit_of t s l) w
  put_inserted t s b q f = ap (λ x. (x, an_edit_of t s k)) q ∙ inserted_by (ltb (length l) 16) t s refl f
