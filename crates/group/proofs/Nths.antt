-- Lists read at a place.
use Rattle.std.proofs.Common.{◌≡◌, ℕ, ◌+◌, List, [], ◌∷◌, ◌++◌, length, drop, Some, sym, ap, ◌∙◌, suc-add, zero-add, arith}
use Rattle.std.specs.List.{slice_get, All}
use Rattle.std.proofs.lemmas.Option.{slice_get_within, get_or_from_slice_get}
use Rattle.account.proofs.Places.{nth_front, nth_parts}

module _ {X : Type 0} where
  pub nth_left : (xs ys : List X) (k : ℕ) (x : X) → slice_get xs k ≡ Some x → slice_get (xs ++ ys) k ≡ Some x
  nth_left xs ys k x e = nth_front xs ys k (slice_get_within xs k x e) ∙ e

  pub nth_right : (xs ys : List X) (k : ℕ) → slice_get (xs ++ ys) (length xs + k) ≡ slice_get ys k
  nth_right [] ys k = rw zero-add
  nth_right (x ∷ xs) ys k = rw suc-add (nth_right xs ys k)

  -- what follows on a front, by what is read after it
  pub nth_after : (xs ys : List X) (k : ℕ) (x : X) → length xs ≡ k → slice_get (xs ++ ys) k ≡ Some x → ys ≡ x ∷ drop 1 ys
  nth_after xs ys k x e f =
      let seam : length xs + 0 ≡ k = omega arith in
      nth_parts ys 0 x (sym (nth_right xs ys 0) ∙ ap (slice_get (xs ++ ys)) seam ∙ f)

  pub nth_all : (P : X → Type 0) (xs : List X) (k : ℕ) (x : X) → All P xs → slice_get xs k ≡ Some x → P x
  nth_all P xs k x a e = rw (get_or_from_slice_get xs k x x e) at (a k x (slice_get_within xs k x e))
