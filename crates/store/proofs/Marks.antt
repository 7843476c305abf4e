-- The marks of the records that a prune removes, and what is left without what they mark.
use Rattle.std.proofs.Common.{◌≡◌, ℕ, zero, suc, ◌+◌, ◌-◌, ◌<◌, ◌≤◌, Bool, true, false, cond, ltb, List, [], ◌∷◌, ◌++◌, length, get_or, take, drop, set, replicate, sym, refl, ap, ◌∙◌, add-one, append_assoc, arith}
use Rattle.std.proofs.Math.Seq.{take-add, take-append-add}
use Rattle.std.proofs.lemmas.List.{length-replicate, at_drop_more, set_at, take_more, take_at, drop_at, take-take, drop-take, take-replicate, drop-replicate, length-append, length-take-le, length-drop}
use Rattle.store.specs.declared.records.Record.{Record}
use Rattle.store.specs.Rows.{last_place, replaced, unmarked}
use Rattle.store.specs.StoreModel.{matches, some, pruned}
use Rattle.store.proofs.Places.{some_after}

pub length_replaced : (h : ℕ) (rs : List Record) → length (replaced h rs) ≡ length rs
length_replaced h [] = refl
length_replaced h (r ∷ rs) = ap suc (length_replaced h rs)

replaced_at : (h : ℕ) (rs : List Record) (i : ℕ) (d : Record) → i < length rs →
    get_or (replaced h rs) i false ≡ some (matches (get_or rs i d).item h) (drop (suc i) rs)
replaced_at h [] i d l = absurd (omega arith)
replaced_at h (r ∷ rs) zero d l = refl
replaced_at h (r ∷ rs) (suc i) d l = replaced_at h rs i d (omega arith)

-- a record is marked by the place of the last one that replaces it
pub mark_here : (h : ℕ) (rs : List Record) (i : ℕ) (d : Record) → i < length rs →
    ltb (i + 1) (last_place (matches (get_or rs i d).item h) rs (length rs)) ≡ get_or (replaced h rs) i false
mark_here h rs i d l =
    let p = matches (get_or rs i d).item h in
    sym (some_after p rs (i + 1)) ∙ ap (λ k. some p (drop k rs)) (add-one i) ∙ sym (replaced_at h rs i d l)

-- one of the marks ms more is written over fs
pub marks_more : (ms fs gs : List Bool) (i : ℕ) → i < length ms → i < length fs → gs ≡ take i ms ++ drop i fs →
    set gs i (get_or ms i false) ≡ take (i + 1) ms ++ drop (i + 1) fs
marks_more ms fs gs i l f e =
    let b = get_or ms i false in
    ap (λ zs. set zs i b) e
    ∙ at_drop_more (λ zs. set (take i ms ++ zs) i b) fs i false f
    ∙ set_at (take i ms) (get_or fs i false) (drop (i + 1) fs) b i (length-take-le i ms (omega arith))
    ∙ sym (append_assoc (take i ms) (b ∷ []) (drop (i + 1) fs))
    ∙ ap (λ zs. zs ++ drop (i + 1) fs) (sym (take_more ms i false l))

-- what is left without the marked records is what a prune leaves
pub unmarked_replaced : (h : ℕ) (rs : List Record) → unmarked (replaced h rs) rs ≡ pruned h rs
unmarked_replaced h [] = refl
unmarked_replaced h (r ∷ rs) = rw (unmarked_replaced h rs)

-- Marks ms of the first n of xs, and none of the t after them: ys has in its first r places what is not marked

module _ {X : Type 0} where
  unmarked_append : (fs bs : List Bool) (xs ys : List X) → length xs ≡ length fs → unmarked (fs ++ bs) (xs ++ ys) ≡ unmarked fs xs ++ unmarked bs ys
  unmarked_append [] bs [] ys e = refl
  unmarked_append [] bs (x ∷ xs) ys e = absurd (omega arith)
  unmarked_append (f ∷ fs) bs [] ys e = absurd (omega arith)
  unmarked_append (f ∷ fs) bs (x ∷ xs) ys e =
      let more = unmarked_append fs bs xs ys (omega arith) in
      elim f as (λ t. cond t (unmarked (fs ++ bs) (xs ++ ys)) (x ∷ unmarked (fs ++ bs) (xs ++ ys)) ≡ cond t (unmarked fs xs) (x ∷ unmarked fs xs) ++ unmarked bs ys) [
        | true ↦ more
        | false ↦ ap (λ l. x ∷ l) more
      ]

  unmarked_clear : (n : ℕ) (ys : List X) → unmarked (replicate n false) ys ≡ ys
  unmarked_clear zero ys = refl
  unmarked_clear (suc n) [] = refl
  unmarked_clear (suc n) (y ∷ ys) = ap (λ l. y ∷ l) (unmarked_clear n ys)

  module _ (ms gs : List Bool) (m : ℕ) (xs ys : List X) (n t r : ℕ) (marks : gs ≡ take (n + t) (ms ++ drop n (replicate m false)))
      (many : length ms ≡ n) (row : n + t ≤ length xs) (within : n + t ≤ m) (bound : r ≤ length ys)
      (left : take r ys ≡ unmarked gs (take (length gs) xs)) where
    all_left : take r ys ≡ unmarked ms (take n xs) ++ take t (drop n xs)
    all_left =
        let clear : gs ≡ ms ++ replicate t false =
        marks
        ∙ ap (λ zs. take (n + t) (ms ++ zs)) (drop-replicate n m false)
        ∙ ap (λ k. take (k + t) (ms ++ replicate (m - n) false)) (sym many)
        ∙ take-append-add ms (replicate (m - n) false) t
        ∙ ap (λ zs. ms ++ zs) (take-replicate t (m - n) false (omega arith)) in
        left
        ∙ ap (λ fs. unmarked fs (take (length fs) xs)) clear
        ∙ ap (λ k. unmarked (ms ++ replicate t false) (take k xs)) (length-append ms (replicate t false) ∙ rw (many, length-replicate t false))
        ∙ ap (unmarked (ms ++ replicate t false)) (take-add n t xs)
        ∙ unmarked_append ms (replicate t false) (take n xs) (take t (drop n xs)) (omega (arith, length-take-le n xs))
        ∙ ap (λ zs. unmarked ms (take n xs) ++ zs) (unmarked_clear t (take t (drop n xs)))

    pub left_long : length (unmarked ms (take n xs)) + t ≡ r
    left_long =
        let back : length (take t (drop n xs)) ≡ t = length-take-le t (drop n xs) (omega (arith, length-drop n xs)) in
        let both : length (take r ys) ≡ length (unmarked ms (take n xs)) + length (take t (drop n xs)) =
        ap length all_left ∙ length-append (unmarked ms (take n xs)) (take t (drop n xs)) in
        omega (arith, length-take-le r ys bound)

    pub left_front : take (r - t) ys ≡ unmarked ms (take n xs)
    left_front =
        sym (take-take (r - t) r ys (omega arith))
        ∙ ap (take (r - t)) all_left
        ∙ take_at (unmarked ms (take n xs)) (take t (drop n xs)) (r - t) (omega (arith, left_long))

    pub left_behind : take t (drop (r - t) ys) ≡ take t (drop n xs)
    left_behind =
        let whole : r - t + t ≡ r = omega (arith, left_long) in
        sym (drop-take (r - t) t ys)
        ∙ ap (λ k. drop (r - t) (take k ys)) whole
        ∙ ap (drop (r - t)) all_left
        ∙ drop_at (unmarked ms (take n xs)) (take t (drop n xs)) (r - t) (omega (arith, left_long))
