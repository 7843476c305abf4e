-- A first word of another kind than an entry's: no entry is read.
use Rattle.std.proofs.Common.{◌≡◌, ℕ, Bool, false, cond, List, [], ◌∷◌, get_or, Some, None, Option, refl, ap}
use Rattle.std.proofs.lemmas.Bool.{ne_eqb, and_left, and_right, cond-false}
use Rattle.words.specs.Bits.{kind_of, load_of, site_of, is_number}
use Rattle.words.specs.Writes.{heads, leading}
use Rattle.words.specs.Messages.{by_three, or_else}
use Rattle.words.specs.Pages.{an_entry, entry_fits, read_entry}

-- a reading of three and the rest that wants another kind
no_three : {X : Type 0} (k : ℕ) (fits : ℕ → ℕ → ℕ → List ℕ → Bool) (made : ℕ → ℕ → ℕ → List ℕ → X) (ws : List ℕ) →
    ((a b c : ℕ) (r : List ℕ) → (kind_of a ≡ k → ⊥) → fits a b c r ≡ false) → (kind_of (get_or ws 0 0) ≡ k → ⊥) →
    by_three None (λ a b c r. cond (fits a b c r) (Some (made a b c r)) None) ws ≡ None
no_three k fits made [] f h = refl
no_three k fits made (a ∷ []) f h = refl
no_three k fits made (a ∷ (b ∷ [])) f h = refl
no_three k fits made (a ∷ (b ∷ (c ∷ r))) f h = cond-false (fits a b c r) (Some (made a b c r)) None (f a b c r h)

no_head : (n k h : ℕ) (ws : List ℕ) → (kind_of h ≡ k → ⊥) → heads n k h ws ≡ false
no_head n k h ws e = and_left _ _ (ne_eqb (kind_of h) k e)

pub no_entry : (n : ℕ) (ws : List ℕ) → (kind_of (get_or ws 0 0) ≡ 8 → ⊥) → read_entry n ws ≡ None
no_entry n ws e =
    no_three 8 (entry_fits n) (λ h v t r. an_entry (site_of h) (load_of v) (load_of t) (leading r)) ws
    (λ h v t r f. and_right (is_number 4 1 v) _ (and_right (is_number 3 1 t) _ (no_head n 8 h r f))) e

-- the second of two readings, where the first does not come out
pub second_of : {X : Type 0} (a b : Option X) → a ≡ None → or_else a b ≡ b
second_of a b e = ap (λ o. or_else o b) e
