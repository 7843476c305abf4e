-- How a number is read digit by digit.
use Rattle.std.proofs.Common.{◌≡◌, ℕ, zero, suc, ◌+◌, ◌-◌, ◌*◌, ◌/◌, ◌%◌, ◌^◌, ◌<◌, ◌≤◌, Bool, true, false, cond, ◌&&◌, ltb, List, [], ◌∷◌, map, length, get_or, Some, None, Option, sym, refl, ap, ◌∙◌, subst, arith}
use Rattle.std.specs.Array.{IsFromFnResultFrom}
use Rattle.std.specs.Fn.{Mut, Called}
use Rattle.std.specs.Int.Digits.{number_from_digits, number_from_digits_after, AllBelowBase}
use Rattle.std.proofs.lemmas.Int.Digits.{number_after_ge, number_lt}
use Rattle.std.proofs.lemmas.List.{length-map}
use Rattle.std.proofs.lemmas.Bool.{ltb-true, ltb-false, lt-ltb, le-ltb, eq-eqb, and_parts, and_from}
use Rattle.text.specs.Numbers.{digit_value, is_digit, all_digits, value_of, below, more_of, number_of, hex_word_of}

-- the number that the digits give after the number so far
abbrev pub reading : ℕ → ℕ → List ℕ → Option ℕ
reading base n w = cond (all_digits base w) (below (2 ^ 32) (number_from_digits_after base n (map digit_value w))) None

-- a number below the limit, and one that is not
pub below_some : (limit n : ℕ) → n < limit → below limit n ≡ Some n
below_some limit n h = ap (λ x. cond x (Some n) None) (lt-ltb n limit h)

pub below_none : (limit n : ℕ) → limit ≤ n → below limit n ≡ None
below_none limit n h = ap (λ x. cond x (Some n) None) (le-ltb n limit h)

-- one more digit
pub reading_more : (base n b m : ℕ) (bs : List ℕ) → more_of base n b ≡ Some m → reading base n (b ∷ bs) ≡ reading base m bs
reading_more base n b m bs = step (is_digit base b) (ltb (n * base + digit_value b) (2 ^ 32))
  where
    step : (x y : Bool) → cond x (cond y (Some (n * base + digit_value b)) None) None ≡ Some m
        → cond (x && all_digits base bs) (below (2 ^ 32) (number_from_digits_after base (n * base + digit_value b) (map digit_value bs))) None ≡ reading base m bs
    step true true e = let same : n * base + digit_value b ≡ m = cc in ap (λ k. reading base k bs) same
    step true false e = absurd (let z : ◌≡◌ {A = ℕ} 0 1 = cc in omega arith)
    step false y e = absurd (let z : ◌≡◌ {A = ℕ} 0 1 = cc in omega arith)

-- no digit, or more than 32 bits hold, whatever follows
pub reading_stop : (base n b : ℕ) (bs : List ℕ) → 0 < base → more_of base n b ≡ None → reading base n (b ∷ bs) ≡ None
reading_stop base n b bs h = step (is_digit base b) (ltb (n * base + digit_value b) (2 ^ 32)) refl (all_digits base bs)
  where
    step : (x y : Bool) → ltb (n * base + digit_value b) (2 ^ 32) ≡ y → (z : Bool) → cond x (cond y (Some (n * base + digit_value b)) None) None ≡ None
        → cond (x && z) (below (2 ^ 32) (number_from_digits_after base (n * base + digit_value b) (map digit_value bs))) None ≡ None
    step false y e z o = refl
    step true y e false o = refl
    step true true e true o = absurd (let z : ◌≡◌ {A = ℕ} 0 1 = cc in omega arith)
    step true false e true o =
        below_none (2 ^ 32) _ (omega (arith, ltb-false (n * base + digit_value b) (2 ^ 32) e, number_after_ge base (n * base + digit_value b) (map digit_value bs) h))

-- a number with one more digit stays within 32 bits
pub more_small : (base n b m : ℕ) → more_of base n b ≡ Some m → m < 2 ^ 32
more_small base n b m = step (is_digit base b) (ltb (n * base + digit_value b) (2 ^ 32)) refl
  where
    step : (x y : Bool) → ltb (n * base + digit_value b) (2 ^ 32) ≡ y → cond x (cond y (Some (n * base + digit_value b)) None) None ≡ Some m → m < 2 ^ 32
    step true true e o = let same : n * base + digit_value b ≡ m = cc in omega (arith, ltb-true (n * base + digit_value b) (2 ^ 32) e)
    step true false e o = absurd (let z : ◌≡◌ {A = ℕ} 0 1 = cc in omega arith)
    step false y e o = absurd (let z : ◌≡◌ {A = ℕ} 0 1 = cc in omega arith)

-- digits are below their base, so that the number they write is below the base to the power of their count
pub digits_under : (base : ℕ) (w : List ℕ) → all_digits base w ≡ true → AllBelowBase base (map digit_value w)
digits_under base [] e = tt
digits_under base (b ∷ bs) e =
    let parts = and_parts (is_digit base b) (all_digits base bs) e in
    (ltb-true (digit_value b) base parts.0, digits_under base bs parts.1)

-- 32 bits hold eight hexadecimal digits
pub hex_fits : (w : List ℕ) → length w ≡ 8 → number_of 16 w ≡ hex_word_of w
hex_fits w h = step (all_digits 16 w) refl ∙ sym (ap (λ x. cond (x && all_digits 16 w) (Some (value_of 16 w)) None) (eq-eqb (length w) 8 h))
  where
    step : (x : Bool) → all_digits 16 w ≡ x → cond x (below (2 ^ 32) (value_of 16 w)) None ≡ cond x (Some (value_of 16 w)) None
    step true e =
        let size = ap (λ n. 16 ^ n) (length-map w digit_value ∙ h) in
        below_some (2 ^ 32) (value_of 16 w) (omega (arith, number_lt 16 (map digit_value w) (digits_under 16 w e), size))
    step false e = refl

-- a word is the number that its four-bit parts write in base 16
pub hex_number : (w a b c d e f g h : ℕ) → w < 2 ^ 32
    → a ≡ w / 2 ^ 28 % 16 → b ≡ w / 2 ^ 24 % 16 → c ≡ w / 2 ^ 20 % 16 → d ≡ w / 2 ^ 16 % 16
    → e ≡ w / 2 ^ 12 % 16 → f ≡ w / 2 ^ 8 % 16 → g ≡ w / 2 ^ 4 % 16 → h ≡ w % 16
    → number_from_digits 16 (a ∷ b ∷ c ∷ d ∷ e ∷ f ∷ g ∷ h ∷ []) ≡ w
hex_number w a b c d e f g h small = λ pa pb pc pd pe pf pg ph. omega arith

-- the digit of a four-bit part, before further digits
hex_before : (b x : ℕ) (rest : Bool) → digit_value b ≡ x % 16 → rest ≡ true → (is_digit 16 b && rest) ≡ true
hex_before b x rest e h = and_from (is_digit 16 b) rest (lt-ltb (digit_value b) 16 (omega arith)) h

-- eight digits of the four-bit parts of a word are read as that word
pub hex_reads : (w a b c d e f g h : ℕ) → w < 2 ^ 32
    → digit_value a ≡ w / 2 ^ 28 % 16 → digit_value b ≡ w / 2 ^ 24 % 16 → digit_value c ≡ w / 2 ^ 20 % 16 → digit_value d ≡ w / 2 ^ 16 % 16
    → digit_value e ≡ w / 2 ^ 12 % 16 → digit_value f ≡ w / 2 ^ 8 % 16 → digit_value g ≡ w / 2 ^ 4 % 16 → digit_value h ≡ w % 16
    → hex_word_of (a ∷ b ∷ c ∷ d ∷ e ∷ f ∷ g ∷ h ∷ []) ≡ Some w
hex_reads w a b c d e f g h small pa pb pc pd pe pf pg ph =
    let low = hex_before e _ _ pe (hex_before f _ _ pf (hex_before g _ _ pg (hex_before h _ true ph refl))) in
    let all = hex_before a _ _ pa (hex_before b _ _ pb (hex_before c _ _ pc (hex_before d _ _ pd low))) in
    ap (λ x. cond x (Some (value_of 16 (a ∷ b ∷ c ∷ d ∷ e ∷ f ∷ g ∷ h ∷ []))) None) all ∙ ap Some (hex_number w _ _ _ _ _ _ _ _ small pa pb pc pd pe pf pg ph)

-- calls that leave the closure as it is, at each place in turn: each element is what such a call gives
pub each_element : {F : Type 0} (g : Mut F (ℕ × Unit {0}) ℕ) (f : F) (P : ℕ → ℕ → Type 0) (keeps : (i y : ℕ) (q : F) → Called g f (i, tt) y q → (q ≡ f) × P i y)
    (ys : List ℕ) (i n : ℕ) → IsFromFnResultFrom g f ys i n → (k m : ℕ) → m ≡ i + k → k < n → P m (get_or ys m 0)
each_element g f P keeps ys i zero r k m e h = absurd (omega (arith, h))
each_element g f P keeps ys i (suc n) r zero m e h =
    let at : m ≡ i = omega (arith, e) in
    subst (λ x. P x (get_or ys x 0)) (sym at) (subst (P i) (sym (r.2.1 0)) (keeps i r.1 r.0 r.3).1)
each_element g f P keeps ys i (suc n) r (suc k) m e h =
    each_element g f P keeps ys (i + 1) n (subst (λ x. IsFromFnResultFrom g x ys (i + 1) n) (keeps i r.1 r.0 r.3).0 r.4) k m (omega (arith, e)) (omega (arith, h))

-- a list of eight digits of the four-bit parts of a word, by their places
pub hex_reads_at : (w : ℕ) (bytes : List ℕ) → w < 2 ^ 32 → length bytes ≡ 8
    → ((i : ℕ) → i < 8 → digit_value (get_or bytes i 0) ≡ w / 2 ^ (28 - 4 * i) % 16) → hex_word_of bytes ≡ Some w
hex_reads_at w (a ∷ b ∷ c ∷ d ∷ e ∷ f ∷ g ∷ h ∷ []) small n at =
    hex_reads w a b c d e f g h small (at 0 (omega arith)) (at 1 (omega arith)) (at 2 (omega arith)) (at 3 (omega arith))
    (at 4 (omega arith)) (at 5 (omega arith)) (at 6 (omega arith)) (at 7 (omega arith) ∙ omega arith)
hex_reads_at w [] small n at = absurd (omega (arith, n))
hex_reads_at w (a ∷ []) small n at = absurd (omega (arith, n))
hex_reads_at w (a ∷ b ∷ []) small n at = absurd (omega (arith, n))
hex_reads_at w (a ∷ b ∷ c ∷ []) small n at = absurd (omega (arith, n))
hex_reads_at w (a ∷ b ∷ c ∷ d ∷ []) small n at = absurd (omega (arith, n))
hex_reads_at w (a ∷ b ∷ c ∷ d ∷ e ∷ []) small n at = absurd (omega (arith, n))
hex_reads_at w (a ∷ b ∷ c ∷ d ∷ e ∷ f ∷ []) small n at = absurd (omega (arith, n))
hex_reads_at w (a ∷ b ∷ c ∷ d ∷ e ∷ f ∷ g ∷ []) small n at = absurd (omega (arith, n))
hex_reads_at w (a ∷ b ∷ c ∷ d ∷ e ∷ f ∷ g ∷ h ∷ i ∷ more) small n at = absurd (omega (arith, n))
