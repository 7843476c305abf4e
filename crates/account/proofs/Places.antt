-- Lists read at a place.
use Rattle.std.proofs.Common.{◌≡◌, ℕ, zero, suc, ◌+◌, ◌<◌, List, [], ◌∷◌, ◌++◌, length, take, drop, Some, sym, refl, ap, ◌∙◌, suc-add, zero-add, arith}
use Rattle.std.specs.List.{slice_get}

module _ {X : Type 0} where
  pub nth_within : (xs : List X) (k : ℕ) (x : X) → slice_get xs k ≡ Some x → k < length xs
  nth_within [] k x e = absurd (let z : ◌≡◌ {A = ℕ} 0 1 = cc in omega arith)
  nth_within (y ∷ xs) zero x e = omega arith
  nth_within (y ∷ xs) (suc k) x e = let h = nth_within xs k x e in omega arith

  pub nth_front : (xs ys : List X) (k : ℕ) → k < length xs → slice_get (xs ++ ys) k ≡ slice_get xs k
  nth_front [] ys k h = absurd (omega arith)
  nth_front (x ∷ xs) ys zero h = refl
  nth_front (x ∷ xs) ys (suc k) h = nth_front xs ys k (omega arith)

  pub nth_at : (xs ys : List X) (x : X) → slice_get (xs ++ (x ∷ ys)) (length xs) ≡ Some x
  nth_at [] ys x = refl
  nth_at (y ∷ xs) ys x = nth_at xs ys x

  pub nth_drop : (xs : List X) (s k : ℕ) → slice_get (drop s xs) k ≡ slice_get xs (s + k)
  nth_drop xs zero k = ap (slice_get xs) (sym (zero-add k))
  nth_drop [] (suc s) k = refl
  nth_drop (x ∷ xs) (suc s) k = nth_drop xs s k ∙ ap (slice_get (x ∷ xs)) (sym (suc-add s k))

  -- a list parted at a place
  pub nth_parts : (xs : List X) (k : ℕ) (x : X) → slice_get xs k ≡ Some x → xs ≡ take k xs ++ (x ∷ drop (suc k) xs)
  nth_parts [] k x e = absurd (let z : ◌≡◌ {A = ℕ} 0 1 = cc in omega arith)
  nth_parts (y ∷ xs) zero x e = let f : y ≡ x = cc in ap (λ v. v ∷ xs) f
  nth_parts (y ∷ xs) (suc k) x e = ap (λ l. y ∷ l) (nth_parts xs k x e)

  pub same_some : {x y : X} → Some x ≡ Some y → x ≡ y
  same_some e = cc
