-- What is gathered where the question answers a list's items by their places. A lemma, kept here so that other crates can cite it.
use Rattle.std.proofs.Common.{◌≡◌, ℕ, zero, suc, ◌+◌, ◌-◌, ◌<◌, ◌≤◌, Option, None, Some, List, [], ◌∷◌, length, take, drop, sym, ap, ◌∙◌, arith, slice_get}
use Rattle.std.proofs.lemmas.List.{drop_all, drop_more, take_all}
use Rattle.std.proofs.lemmas.Option.{none-some, slice_get_within, get_or_from_slice_get}
use Rattle.few.specs.Lists.{Gathers, full, ended, more}

past_end : {A : Type 0} (i : ℕ) (xs : List A) → slice_get xs i ≡ None → length xs ≤ i
past_end i [] e = omega arith
past_end zero (x ∷ xs) e = absurd (none-some x (sym e))
past_end (suc i) (x ∷ xs) e = omega (arith, past_end i xs e)

module _ {A : Type 0} (P : ℕ → Option A → Type 0) (n : ℕ) (xs : List A) (place : (i : ℕ) → (r : Option A) → i < n → P i r → r ≡ slice_get xs i) where
  zero_left : 0 ≡ n - n
  zero_left = omega arith

  pub gathered_from : {i : ℕ} → {l : List A} → Gathers P n i l → l ≡ take (n - i) (drop i xs)
  gathered_from full = ap (λ k. take k (drop n xs)) zero_left
  gathered_from {i = i} (ended h p) =
      sym (ap (take (n - i)) (drop_all i xs (past_end i xs (sym (place i None h p)))) ∙ take_all (n - i) [] (omega arith))
  gathered_from {i = i} (more {x = x} h p g) =
      let e = sym (place i (Some x) h p) in
      let k : n - i ≡ suc (n - (i + 1)) = omega arith in
      sym (
      ap (λ m. take m (drop i xs)) k
      ∙ ap (take (suc (n - (i + 1)))) (drop_more xs i x (slice_get_within xs i x e))
      ∙ ap (λ y. y ∷ take (n - (i + 1)) (drop (i + 1) xs)) (get_or_from_slice_get xs i x x e)
      ∙ ap (λ v. x ∷ v) (sym (gathered_from g))
      )

  whole : n - 0 ≡ n
  whole = omega arith

  -- A question that answers the list's items by their places gathers its first n.
  pub gathered_front : {l : List A} → Gathers P n 0 l → l ≡ take n xs
  gathered_front g = gathered_from g ∙ ap (λ k. take k xs) whole
