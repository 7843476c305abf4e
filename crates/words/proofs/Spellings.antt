-- A message or a page has one spelling: what is shared by the kinds of both.
use Rattle.std.proofs.Common.{◌≡◌, ℕ, ◌≤◌, Bool, true, false, cond, eqb, ltb, leb, ◌⊎◌, List, [], ◌∷◌, Some, None, Option, sym, refl, ap, ◌∙◌, inl, inr, arith}
use Rattle.std.proofs.lemmas.Bool.{eq-eqb, eqb-true, ltb-true, lt-ltb, le-leb, leb-true, and_parts, and_from, cond-true}
use Rattle.words.specs.Bits.{kind_of, load_of, word, is_number, in_range, is_group}
use Rattle.words.specs.Messages.{by_three, or_else, OneSpelling}

-- what a test that came out gives
pub from_cond : {X : Type 0} (b : Bool) (o : Option X) (y : X) → cond b o None ≡ Some y → (b ≡ true) × (o ≡ Some y)
from_cond true o y p = (refl, p)
from_cond false o y p = absurd (let t : ◌≡◌ {A = ℕ} 0 1 = cc in omega arith)

from_else : {X : Type 0} (a b : Option X) (p : X) → or_else a b ≡ Some p → (a ≡ Some p) ⊎ (b ≡ Some p)
from_else None b p e = inr e
from_else (Some q) b p e = inl e

-- words that are read as three and the rest are the spelling of what they are read as
module _ {X : Type 0} (spelt : X → List ℕ) (valid : X → Bool) (fits : ℕ → ℕ → ℕ → List ℕ → Bool) (made : ℕ → ℕ → ℕ → List ℕ → X) where
  pub three_back :
      ((a b c : ℕ) (r : List ℕ) → fits a b c r ≡ true → (◌≡◌ {A = List ℕ} (a ∷ (b ∷ (c ∷ r))) (spelt (made a b c r))) × (valid (made a b c r) ≡ true)) →
      (ws : List ℕ) (m : X) → by_three None (λ a b c r. cond (fits a b c r) (Some (made a b c r)) None) ws ≡ Some m →
      (ws ≡ spelt m) × (valid m ≡ true)
  three_back back [] m e = absurd (let t : ◌≡◌ {A = ℕ} 0 1 = cc in omega arith)
  three_back back (a ∷ []) m e = absurd (let t : ◌≡◌ {A = ℕ} 0 1 = cc in omega arith)
  three_back back (a ∷ (b ∷ [])) m e = absurd (let t : ◌≡◌ {A = ℕ} 0 1 = cc in omega arith)
  three_back back (a ∷ (b ∷ (c ∷ r))) m e =
      let q = from_cond (fits a b c r) (Some (made a b c r)) m e in
      let k : made a b c r ≡ m = let x = q.1 in cc in
      let s = back a b c r q.0 in
      (s.0 ∙ ap spelt k, sym (ap valid k) ∙ s.1)

pub same_cons : {a b : ℕ} {l m : List ℕ} → a ≡ b → l ≡ m → ◌≡◌ {A = List ℕ} (a ∷ l) (b ∷ m)
same_cons p q = cc

-- a number's word, and back
pub number_back : (k least w : ℕ) → is_number k least w ≡ true → (w ≡ word k (load_of w)) × (in_range least (load_of w) ≡ true)
number_back k least w e =
    let a = and_parts (eqb (kind_of w) k) (leb least (load_of w)) e in
    let h = eqb-true (kind_of w) k a.0 in
    (omega arith, and_from _ _ a.1 (lt-ltb (load_of w) 268435456 (omega arith)))

pub number_read : (k least x : ℕ) → in_range least x ≡ true → (is_number k least (word k x) ≡ true) × (load_of (word k x) ≡ x)
number_read k least x e =
    let a = and_parts (leb least x) (ltb x 268435456) e in
    let h = leb-true least x a.0 in
    let g = ltb-true x 268435456 a.1 in
    let l : load_of (word k x) ≡ x = omega arith in (
      and_from _ _ (eq-eqb (kind_of (word k x)) k (omega arith)) (le-leb least (load_of (word k x)) (omega (arith, l))),
      l,
    )

pub group_parts : (n : ℕ) → is_group n ≡ true → (2 ≤ n) × (n ≤ 8)
group_parts n e = let a = and_parts (leb 2 n) (leb n 8) e in (leb-true 2 n a.0, leb-true n 8 a.1)

-- two kinds, each with one spelling of its own, in a group
module _ {X : Type 0} (spelt : X → List ℕ) (valid : X → Bool) (n : ℕ) (first second : List ℕ → Option X) where
  abbrev Back : (List ℕ → Option X) → Type 0
  Back reading = (ws : List ℕ) (m : X) → is_group n ≡ true → reading ws ≡ Some m → (ws ≡ spelt m) × (valid m ≡ true)

  pub one_spelling : Back first → Back second →
      ((m : X) → valid m ≡ true → (is_group n ≡ true) × (or_else (first (spelt m)) (second (spelt m)) ≡ Some m)) →
      (ws : List ℕ) → OneSpelling spelt valid ws (cond (is_group n) (or_else (first ws) (second ws)) None)
  one_spelling back back' forth ws m = (
    (λ e.
        let q = from_cond (is_group n) (or_else (first ws) (second ws)) m e in
        elim (from_else (first ws) (second ws) m q.1) [ inl u ↦ back ws m q.0 u | inr u ↦ back' ws m q.0 u ]),
    λ e v.
        let q = forth m v in
        ap (λ l. cond (is_group n) (or_else (first l) (second l)) None) e
        ∙ cond-true (is_group n) (or_else (first (spelt m)) (second (spelt m))) None q.0
        ∙ q.1,
  )
