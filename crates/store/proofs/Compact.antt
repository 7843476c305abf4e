-- Closing the gaps in a row, by exchanges.
use Rattle.std.proofs.Common.{◌≡◌, ℕ, ◌+◌, ◌<◌, ◌≤◌, Bool, true, false, cond, List, [], ◌∷◌, ◌++◌, length, get_or, take, drop, set, sym, refl, ap, ◌∙◌, ⊎_elim, arith}
use Rattle.std.specs.List.{swap}
use Rattle.std.specs.List.Sorted.{IsPermutation}
use Rattle.std.proofs.lemmas.List.Edits.{swap_is}
use Rattle.std.proofs.lemmas.List.{at_drop_more, at_drop_all, drop-drop, drop-set-lt, take_more_set, take-set-le, append_assoc, append-nil, length-take-le, set-set, get_or-take, get_or-drop}
use Rattle.std.proofs.lemmas.List.Sorted.{IsPermutation-swap, IsPermutation-trans, length_permutation}
use Rattle.std.proofs.lemmas.Bool.{cases_lt}
use Rattle.store.specs.Rows.{unmarked}

module _ {X : Type 0} where
  -- an element of a list that has some
  any_of : (xs : List X) (i : ℕ) → i < length xs → X
  any_of [] i h = absurd (omega arith)
  any_of (x ∷ xs) i h = x

  drop_next : (xs ys : List X) (i : ℕ) → drop i ys ≡ drop i xs → drop (i + 1) ys ≡ drop (i + 1) xs
  drop_next xs ys i h = sym (drop-drop 1 i ys) ∙ ap (drop 1) h ∙ drop-drop 1 i xs

  same_element : (xs ys : List X) (i : ℕ) (d : X) → drop i ys ≡ drop i xs → get_or ys i d ≡ get_or xs i d
  same_element xs ys i d h =
      let at : (zs : List X) → get_or (drop i zs) 0 d ≡ get_or zs i d = λ zs. get_or-drop i zs 0 d ∙ ap (λ j. get_or zs j d) (omega arith) in
      sym (at ys) ∙ ap (λ zs. get_or zs 0 d) h ∙ at xs

  -- An exchange of places a and b

  module _ (ys : List X) (a b : ℕ) (d : X) (down : a ≤ b) (within : b < length ys) where
    swap_front : take (a + 1) (swap ys a b) ≡ take a ys ++ (get_or ys b d ∷ [])
    swap_front =
        ap (take (a + 1)) (sym (swap_is ys a b d (omega arith) within))
        ∙ ⊎_elim
        (λ l. take-set-le (a + 1) (set ys a (get_or ys b d)) b (get_or ys a d) (omega arith) ∙ take_more_set ys a (get_or ys b d) (omega arith))
        (λ l.
        let e : b ≡ a = omega arith in
        let here : a < length ys = omega arith in
        rw e (ap (take (a + 1)) (set-set ys a (get_or ys a d) (get_or ys a d)) ∙ take_more_set ys a (get_or ys a d) here))
        (cases_lt a b)

    swap_rest : drop (b + 1) (swap ys a b) ≡ drop (b + 1) ys
    swap_rest =
        ap (drop (b + 1)) (sym (swap_is ys a b d (omega arith) within))
        ∙ drop-set-lt (b + 1) (set ys a (get_or ys b d)) b (get_or ys a d) (omega arith)
        ∙ drop-set-lt (b + 1) ys a (get_or ys b d) (omega arith)

  -- ys began as xs, and i of the first s elements are gone through. What is left of those stands in the first k places of
  -- ys, and from i on ys is as it was
  pub record Compacting (gs : List Bool) (s : ℕ) (xs ys : List X) (k i : ℕ) : Type 0 where
    pub front : take k ys ++ unmarked (drop i gs) (drop i (take s xs)) ≡ unmarked gs (take s xs)
    pub rest : drop i ys ≡ drop i xs
    pub behind : k ≤ i
    pub within : i ≤ s
    pub row : s ≤ length xs
    pub marks : s ≤ length gs
    pub shuffled : IsPermutation xs ys

  unmarked_more : (gs : List Bool) (xs : List X) (i : ℕ) (d : X) (t : Bool) → i < length gs → i < length xs → get_or gs i false ≡ t →
      unmarked (drop i gs) (drop i xs) ≡ cond t (unmarked (drop (i + 1) gs) (drop (i + 1) xs)) (get_or xs i d ∷ unmarked (drop (i + 1) gs) (drop (i + 1) xs))
  unmarked_more gs xs i d t g l e =
      at_drop_more (λ zs. unmarked zs (drop i xs)) gs i false g
      ∙ at_drop_more (unmarked (get_or gs i false ∷ drop (i + 1) gs)) xs i d l
      ∙ rw e

  module _ {gs : List Bool} {s : ℕ} {xs ys : List X} {k i : ℕ} (c : Compacting gs s xs ys k i) where
    pub compacting_long : length ys ≡ length xs
    compacting_long = length_permutation xs ys c.shuffled

    module _ (lt : i < s) where
      an_element : X
      an_element = let row = c.row in any_of xs i (omega arith)

      stepped : (t : Bool) → get_or gs i false ≡ t →
          unmarked (drop i gs) (drop i (take s xs)) ≡ cond t (unmarked (drop (i + 1) gs) (drop (i + 1) (take s xs))) (get_or ys i an_element ∷ unmarked (drop (i + 1) gs) (drop (i + 1) (take s xs)))
      stepped t e =
          let row = c.row in
          let marks = c.marks in
          let n : length (take s xs) ≡ s = length-take-le s xs row in
          let same : get_or ys i an_element ≡ get_or (take s xs) i an_element =
          same_element xs ys i an_element c.rest ∙ sym (get_or-take s xs i an_element lt) in
          rw same (unmarked_more gs (take s xs) i an_element t (omega arith) (omega arith) e)

      pub compacting_left : get_or gs i false ≡ true → Compacting gs s xs ys k (i + 1)
      compacting_left e = record {
        front = ap (λ zs. take k ys ++ zs) (sym (stepped true e)) ∙ c.front;
        rest = drop_next xs ys i c.rest;
        behind = let b = c.behind in omega arith;
        within = omega arith;
        row = c.row;
        marks = c.marks;
        shuffled = c.shuffled;
      }

      pub compacting_kept : (zs : List X) → zs ≡ swap ys k i → get_or gs i false ≡ false → Compacting gs s xs zs (k + 1) (i + 1)
      compacting_kept zs e t =
          let row = c.row in
          let b = c.behind in
          let long = compacting_long in
          let more = unmarked (drop (i + 1) gs) (drop (i + 1) (take s xs)) in
          record {
            front =
                ap (λ l. take (k + 1) l ++ more) e
                ∙ ap (λ l. l ++ more) (swap_front ys k i an_element (omega arith) (omega arith))
                ∙ append_assoc (take k ys) (get_or ys i an_element ∷ []) more
                ∙ ap (λ l. take k ys ++ l) (sym (stepped false t))
                ∙ c.front;
            rest = ap (drop (i + 1)) e ∙ swap_rest ys k i an_element (omega arith) (omega arith) ∙ drop_next xs ys i c.rest;
            behind = omega arith;
            within = omega arith;
            row = c.row;
            marks = c.marks;
            shuffled = IsPermutation-trans xs ys zs c.shuffled (IsPermutation-swap ys zs k i (omega arith) (omega arith) e);
          }

    module _ (end : s ≤ i) where
      none_left : (zs : List Bool) → unmarked {X = X} zs [] ≡ []
      none_left [] = refl
      none_left (z ∷ zs) = refl

      pub compacting_all : take k ys ≡ unmarked gs (take s xs)
      compacting_all =
          let row = c.row in
          let n : length (take s xs) ≡ s = length-take-le s xs row in
          sym (append-nil (take k ys))
          ∙ ap (λ zs. take k ys ++ zs) (sym (none_left (drop i gs)) ∙ sym (at_drop_all (unmarked (drop i gs)) (take s xs) i (omega arith)))
          ∙ c.front
