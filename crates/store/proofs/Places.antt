-- Places in a row of records.
use Rattle.std.specs.Prelude.{◌≡◌, ℕ, zero, suc, ◌+◌, ◌-◌, ◌<◌, ◌≤◌, Bool, true, false, cond, List, [], ◌∷◌, ◌++◌, length, get_or, take, drop, Some, nat_lt, slice_index_or, refl}
use Rattle.std.proofs.Common.{sym, ap, ◌∙◌, ⊎_elim, add-one, arith, find, reverse, Option, None}
use Rattle.std.specs.Option.{option_or}
use Rattle.std.proofs.lemmas.List.Folds.{find-append}
use Rattle.std.proofs.lemmas.List.{reverse-append, take_more, take_all, get_or_default, at_drop_all, drop-append-le, length_push, length-take-le}
use Rattle.std.proofs.lemmas.Bool.{cases_Bool, cases_lt, both_ways, lt-ltb, le-ltb}
use Rattle.store.specs.declared.records.Record.{Record}
use Rattle.store.specs.Rows.{blank, last_place, at_place}
use Rattle.store.specs.StoreModel.{latest, or_else, some}

pub at_place_here : (rs : List Record) (n : ℕ) (d : Record) → 0 < n → n ≤ length rs → at_place rs n ≡ Some (slice_index_or rs (n - 1) d)
at_place_here rs zero d h l = absurd (omega arith)
at_place_here rs (suc n) d h l =
    let e : suc n - 1 ≡ n = omega arith in rw e (ap Some (get_or_default rs n blank d (omega arith)))

module _ (p : Record → Bool) where
  pub place_le : (rs : List Record) (n : ℕ) → last_place p rs n ≤ n
  place_le rs zero = omega arith
  place_le rs (suc n) =
      elim (p (slice_index_or rs n blank)) as (λ t. cond t (suc n) (last_place p rs n) ≤ suc n) [
        | true ↦ omega arith
        | false ↦ omega (arith, place_le rs n)
      ]

  -- one record more, by the test of it
  pub place_more : (rs : List Record) (i : ℕ) (d : Record) (t : Bool) → i < length rs → p (slice_index_or rs i d) ≡ t →
      last_place p rs (i + 1) ≡ cond t (i + 1) (last_place p rs i)
  place_more rs i d t h e =
      let here : p (slice_index_or rs i blank) ≡ t = ap p (get_or_default rs i blank d h) ∙ e in
      rw (add-one, here)

  -- the same, counted down
  pub place_down : (rs : List Record) (n : ℕ) (d : Record) (t : Bool) → 0 < n → n ≤ length rs → p (slice_index_or rs (n - 1) d) ≡ t →
      last_place p rs n ≡ cond t (n - 1 + 1) (last_place p rs (n - 1))
  place_down rs n d t pos h e =
      let k : n - 1 + 1 ≡ n = omega arith in
      ap (last_place p rs) (sym k) ∙ place_more rs (n - 1) d t (omega arith) e

  -- a last record that passes stands in a place that passes
  pub place_passes : (rs : List Record) (n : ℕ) → 0 < last_place p rs n → p (slice_index_or rs (last_place p rs n - 1) blank) ≡ true
  place_passes rs zero h = absurd (omega arith)
  place_passes rs (suc n) h =
      ⊎_elim
      (λ e. rw e (ap (λ k. p (slice_index_or rs k blank)) (omega arith) ∙ e))
      (λ e. rw e (place_passes rs n (rw e at h)))
      (cases_Bool (p (slice_index_or rs n blank)))

  -- a record that passes is not after the last one that does
  pub place_least : (rs : List Record) (q n : ℕ) → q ≤ n → (0 < q → p (slice_index_or rs (q - 1) blank) ≡ true) → q ≤ last_place p rs n
  place_least rs q zero h e = omega arith
  place_least rs q (suc n) h e =
      ⊎_elim
      (λ t. rw t h)
      (λ t. rw t (⊎_elim
      (λ l. place_least rs q n (omega arith) e)
      (λ l.
      let k : q - 1 ≡ n = omega arith in
      absurd (both_ways (p (slice_index_or rs n blank)) t (ap (λ i. p (slice_index_or rs i blank)) (sym k) ∙ e (omega arith))))
      (cases_lt q (suc n))))
      (cases_Bool (p (slice_index_or rs n blank)))

  -- the last place among the first n depends on those alone
  pub place_agree : (rs ss : List Record) (n : ℕ) → ((k : ℕ) → k < n → slice_index_or rs k blank ≡ slice_index_or ss k blank) → last_place p rs n ≡ last_place p ss n
  place_agree rs ss zero same = refl
  place_agree rs ss (suc n) same = rw (same n (omega arith), place_agree rs ss n (λ k l. same k (omega arith)))

-- where each record that passes p passes q, the last one that passes p is found from the last one that passes q
pub place_through : (p q : Record → Bool) → ((r : Record) → p r ≡ true → q r ≡ true) → (rs : List Record) (n : ℕ) →
    last_place p rs n ≡ last_place p rs (last_place q rs n)
place_through p q w rs zero = refl
place_through p q w rs (suc n) =
    ⊎_elim
    (λ e. rw e)
    (λ e. rw e (ap (λ t. cond t (suc n) (last_place p rs n)) (misses e) ∙ place_through p q w rs n))
    (cases_Bool (q (slice_index_or rs n blank)))
  where
    misses : q (slice_index_or rs n blank) ≡ false → p (slice_index_or rs n blank) ≡ false
    misses e =
        ⊎_elim
        (λ t. absurd (both_ways (q (slice_index_or rs n blank)) e (w (slice_index_or rs n blank) t)))
        (λ t. t)
        (cases_Bool (p (slice_index_or rs n blank)))

module _ (p : Record → Bool) where
  latest_push : (ys : List Record) (x : Record) → latest p (ys ++ (x ∷ [])) ≡ cond (p x) (Some x) (latest p ys)
  latest_push [] x = refl
  latest_push (y ∷ ys) x =
      elim (p x) as (λ t. (latest p (ys ++ (x ∷ [])) ≡ cond t (Some x) (latest p ys)) → latest p (y ∷ (ys ++ (x ∷ []))) ≡ cond t (Some x) (latest p (y ∷ ys))) [
        | true ↦ λ e. rw e
        | false ↦ λ e. rw e
      ] (latest_push ys x)

  -- the latest record that passes stands at the last place that passes
  pub latest_below : (rs : List Record) (n : ℕ) → n ≤ length rs → latest p (take n rs) ≡ at_place rs (last_place p rs n)
  latest_below rs zero h = refl
  latest_below rs (suc n) h =
      let x = get_or rs n blank in
      ap (λ k. latest p (take k rs)) (sym (add-one n))
      ∙ ap (latest p) (take_more rs n blank (omega arith))
      ∙ latest_push (take n rs) x
      ∙ elim (p x) as (λ t. cond t (Some x) (latest p (take n rs)) ≡ at_place rs (cond t (suc n) (last_place p rs n))) [
        | true ↦ refl
        | false ↦ latest_below rs n (omega arith)
      ]

  either_way : (a b c : Bool) → cond a true (cond b true c) ≡ cond b true (cond a true c)
  either_way true true c = refl
  either_way true false c = refl
  either_way false true c = refl
  either_way false false c = refl

  some_push : (ys : List Record) (x : Record) → some p (ys ++ (x ∷ [])) ≡ cond (p x) true (some p ys)
  some_push [] x = refl
  some_push (y ∷ ys) x = ap (λ t. cond (p y) true t) (some_push ys x) ∙ either_way (p y) (p x) (some p ys)

  some_below : (rs : List Record) (k n : ℕ) → n ≤ length rs → some p (drop k (take n rs)) ≡ nat_lt k (last_place p rs n)
  some_below rs k zero h = at_drop_all (some p) [] k (omega arith) ∙ sym (le-ltb k 0 (omega arith))
  some_below rs k (suc n) h =
      let x = get_or rs n blank in
      let long : length (take n rs) ≡ n = length-take-le n rs (omega arith) in
      ap (λ j. some p (drop k (take j rs))) (sym (add-one n))
      ∙ ap (λ zs. some p (drop k zs)) (take_more rs n blank (omega arith))
      ∙ ⊎_elim
      (λ l. at_drop_all (some p) (take n rs ++ (x ∷ [])) k (omega (arith, length_push (take n rs) x))
      ∙ sym (le-ltb k (last_place p rs (suc n)) (omega (arith, place_le p rs (suc n)))))
      (λ l. ap (some p) (drop-append-le k (take n rs) (x ∷ []) (omega arith))
      ∙ some_push (drop k (take n rs)) x
      ∙ elim (p x) as (λ t. cond t true (some p (drop k (take n rs))) ≡ nat_lt k (cond t (suc n) (last_place p rs n))) [
        | true ↦ sym (lt-ltb k (suc n) (omega arith))
        | false ↦ some_below rs k n (omega arith)
      ])
      (cases_lt n k)

  -- a record after the first k passes exactly when the last place that passes is after them
  pub some_after : (rs : List Record) (k : ℕ) → some p (drop k rs) ≡ nat_lt k (last_place p rs (length rs))
  some_after rs k =
      ap (λ zs. some p (drop k zs)) (sym (take_all (length rs) rs (omega arith))) ∙ some_below rs k (length rs) (omega arith)

or_else_is : (o d : Option Record) → option_or o d ≡ or_else o d
or_else_is None d = refl
or_else_is (Some r) d = refl

-- the latest record that passes is the first one from the end
pub latest_found : (p : Record → Bool) (rs : List Record) → find p (reverse rs) ≡ latest p rs
latest_found p [] = refl
latest_found p (r ∷ rs) =
    ap (find p) (reverse-append (r ∷ []) rs)
    ∙ find-append p (reverse rs) (r ∷ [])
    ∙ ap (λ o. option_or o (find p (r ∷ []))) (latest_found p rs)
    ∙ or_else_is (latest p rs) (find p (r ∷ []))
