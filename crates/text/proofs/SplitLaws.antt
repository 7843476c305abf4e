-- How lines and words follow one another in a text.
use Rattle.std.proofs.Common.{◌≡◌, ℕ, ◌+◌, ◌<◌, Bool, true, false, cond, not, eqb, List, [], ◌∷◌, length, take, drop, sym, refl, ap, ◌∙◌, one-add, arith, length-drop}
use Rattle.std.specs.List.{position_or_len}
use Rattle.std.proofs.lemmas.Bool.{not-true, not-false}
use Rattle.text.specs.Split.{is_blank, is_newline, is_of_word, front, beyond, first_line, after_line, first_word, after_word, begun, lines, in_word, words, led}

-- one more byte before the end, or the byte that ends the part
pub front_more : (ends : ℕ → Bool) (b : ℕ) (bs : List ℕ) → ends b ≡ false → front ends (b ∷ bs) ≡ b ∷ front ends bs
front_more ends b bs e = ap (λ x. take (cond (not x) (1 + position_or_len ends bs) 0) (b ∷ bs)) e ∙ ap (λ n. take n (b ∷ bs)) (one-add (position_or_len ends bs))

pub beyond_more : (ends : ℕ → Bool) (b : ℕ) (bs : List ℕ) → ends b ≡ false → beyond ends (b ∷ bs) ≡ beyond ends bs
beyond_more ends b bs e = ap (λ x. drop (cond (not x) (1 + position_or_len ends bs) 0) (b ∷ bs)) e ∙ ap (λ n. drop n (b ∷ bs)) (one-add (position_or_len ends bs))

pub front_stop : (ends : ℕ → Bool) (b : ℕ) (bs : List ℕ) → ends b ≡ true → front ends (b ∷ bs) ≡ []
front_stop ends b bs e = ap (λ x. take (cond (not x) (1 + position_or_len ends bs) 0) (b ∷ bs)) e

pub beyond_stop : (ends : ℕ → Bool) (b : ℕ) (bs : List ℕ) → ends b ≡ true → beyond ends (b ∷ bs) ≡ b ∷ bs
beyond_stop ends b bs e = ap (λ x. drop (cond (not x) (1 + position_or_len ends bs) 0) (b ∷ bs)) e

-- the lines of a text are its first line and those of the text after it
pub lines_step : (t : List ℕ) → 0 < length t → lines t ≡ first_line t ∷ lines (after_line t)
lines_step [] h = absurd (omega arith)
lines_step (b ∷ bs) h = step (eqb b 10) refl (began bs (lines_step bs))
  where
    began : (t : List ℕ) → (0 < length t → lines t ≡ first_line t ∷ lines (after_line t)) → begun b (lines t) ≡ (b ∷ first_line t) ∷ lines (after_line t)
    began [] ih = refl
    began (c ∷ cs) ih = ap (begun b) (ih (omega arith))

    step : (x : Bool) → eqb b 10 ≡ x → begun b (lines bs) ≡ (b ∷ first_line bs) ∷ lines (after_line bs) → lines (b ∷ bs) ≡ first_line (b ∷ bs) ∷ lines (after_line (b ∷ bs))
    step true e ih = let f = front_stop is_newline b bs e in let g = beyond_stop is_newline b bs e in ap (λ x. cond x ([] ∷ lines bs) (begun b (lines bs))) e ∙ cc (ap (drop 1) g)
    step false e ih = let f = front_more is_newline b bs e in let g = beyond_more is_newline b bs e in ap (λ x. cond x ([] ∷ lines bs) (begun b (lines bs))) e ∙ cc (ap (drop 1) g)

-- a text that does not begin with a word
pub front_none : (t : List ℕ) → in_word t ≡ false → front is_blank t ≡ []
front_none [] e = refl
front_none (b ∷ bs) e = front_stop is_blank b bs (not-false (is_blank b) e)

pub beyond_none : (t : List ℕ) → in_word t ≡ false → beyond is_blank t ≡ t
beyond_none [] e = refl
beyond_none (b ∷ bs) e = beyond_stop is_blank b bs (not-false (is_blank b) e)

-- a text that begins with a word has that word and those of the text after it
pub words_from : (t : List ℕ) → in_word t ≡ true → words t ≡ front is_blank t ∷ words (beyond is_blank t)
words_from [] h = absurd (let z : ◌≡◌ {A = ℕ} 0 1 = cc in omega arith)
words_from (b ∷ bs) h =
    ap (λ x. cond x (words bs) (cond (in_word bs) (begun b (words bs)) ((b ∷ []) ∷ words bs))) (not-true (is_blank b) h)
    ∙ grown (in_word bs) refl (words_from bs)
    ∙ cc (front_more is_blank b bs (not-true (is_blank b) h), beyond_more is_blank b bs (not-true (is_blank b) h))
  where
    grown : (x : Bool) → in_word bs ≡ x → (in_word bs ≡ true → words bs ≡ front is_blank bs ∷ words (beyond is_blank bs))
        → cond (in_word bs) (begun b (words bs)) ((b ∷ []) ∷ words bs) ≡ (b ∷ front is_blank bs) ∷ words (beyond is_blank bs)
    grown true e ih = ap (λ x. cond x (begun b (words bs)) ((b ∷ []) ∷ words bs)) e ∙ ap (begun b) (ih e)
    grown false e ih = ap (λ x. cond x (begun b (words bs)) ((b ∷ []) ∷ words bs)) e ∙ cc (front_none bs e, beyond_none bs e)

-- the words of a text are its first word and those of the text after it
pub words_step : (t : List ℕ) → words t ≡ led (first_word t) (words (after_word t))
words_step [] = refl
words_step (b ∷ bs) = step (is_blank b) refl (words_step bs)
  where
    step : (x : Bool) → is_blank b ≡ x → words bs ≡ led (first_word bs) (words (after_word bs))
        → words (b ∷ bs) ≡ led (first_word (b ∷ bs)) (words (after_word (b ∷ bs)))
    step true e ih = ap (λ x. cond x (words bs) (cond (in_word bs) (begun b (words bs)) ((b ∷ []) ∷ words bs))) e ∙ ih ∙ sym (ap (λ t. led (front is_blank t) (words (beyond is_blank t))) (beyond_more is_of_word b bs (ap not e)))
    step false e ih =
        let f = front_more is_blank b bs e in
        words_from (b ∷ bs) (ap not e)
        ∙ ap (λ w. w ∷ words (beyond is_blank (b ∷ bs))) f
        ∙ sym (ap (λ w. led w (words (beyond is_blank (b ∷ bs)))) f)
        ∙ sym (ap (λ t. led (front is_blank t) (words (beyond is_blank t))) (beyond_stop is_of_word b bs (ap not e)))

-- the text after a line is shorter
pub line_shorter : (t : List ℕ) → 0 < length t → length (after_line t) < length t
line_shorter t h = simp length-drop (omega arith)

-- a part of a part is a part, by their addresses
pub part_within : (whole part inner : ℕ × ℕ) (m n k : ℕ) → part ≡ (whole.0, whole.1 + m) → inner ≡ (part.0, part.1 + n) → m + n ≡ k → inner ≡ (whole.0, whole.1 + k)
part_within whole part inner m n k p q e = q ∙ ap (λ a. (a.0, a.1 + n)) p ∙ ap (λ x. (whole.0, x)) (omega arith)
