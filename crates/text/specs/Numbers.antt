-- Numbers that a word writes. A word is the list of its bytes.
use Rattle.std.specs.Prelude.{ℕ, ◌+◌, ◌-◌, ◌*◌, ◌^◌, Bool, true, cond, ◌&&◌, List, [], ◌∷◌, map, length, ℤ, pos, neg_ℤ, Some, None, Option, ◌==◌, nat_le, nat_lt}
use Rattle.std.specs.Option.{option_map}
use Rattle.std.specs.Int.Digits.{number_from_digits}

-- The value of a digit: 0 to 9, then A to F. Any other byte has 16, which is a digit in no base up to 16.
abbrev pub digit_value : ℕ → ℕ
digit_value b = cond (nat_le 48 b && nat_le b 57) (b - 48) (cond (nat_le 65 b && nat_le b 70) (b - 55) 16)

-- Whether the byte is a digit of the base.
abbrev pub is_digit : ℕ → ℕ → Bool
is_digit base b = nat_lt (digit_value b) base

-- Whether each byte is a digit of the base.
abbrev pub all_digits : ℕ → List ℕ → Bool
all_digits base [] = true
all_digits base (b ∷ bs) = is_digit base b && all_digits base bs

-- The natural number that digits write, the highest digit first.
abbrev pub value_of : ℕ → List ℕ → ℕ
value_of base w = number_from_digits base (map digit_value w)

-- The number, if it is below the limit.
abbrev pub below : ℕ → ℕ → Option ℕ
below limit n = cond (nat_lt n limit) (Some n) None

-- The value of a digit of the base.
abbrev pub digit_of : ℕ → ℕ → Option ℕ
digit_of base b = below base (digit_value b)

-- The number with one more digit, if the byte is one and 32 bits hold the result.
abbrev pub more_of : ℕ → ℕ → ℕ → Option ℕ
more_of base n b = cond (is_digit base b) (below (2 ^ 32) (n * base + digit_value b)) None

-- The number of 32 bits that digits write. No digits write 0.
abbrev pub number_of : ℕ → List ℕ → Option ℕ
number_of base w = cond (all_digits base w) (below (2 ^ 32) (value_of base w)) None

-- The number below the limit that a word writes in decimal: at least one digit, and nothing else.
abbrev pub decimal_below : ℕ → List ℕ → Option ℕ
decimal_below limit [] = None
decimal_below limit (b ∷ bs) = cond (all_digits 10 (b ∷ bs)) (below limit (value_of 10 (b ∷ bs))) None

-- The unsigned number of 32 bits that a word writes.
abbrev pub decimal_of : List ℕ → Option ℕ
decimal_of w = decimal_below (2 ^ 32) w

-- A number with no sign in front.
abbrev pub positive_of : Option ℕ → Option ℤ
positive_of n = option_map pos n

-- A number with a `-` in front.
abbrev pub negative_of : Option ℕ → Option ℤ
negative_of n = option_map (λ size. neg_ℤ (pos size)) n

-- The signed number of 32 bits that a word writes, with a `-` in front where it is negative.
abbrev pub signed_of : List ℕ → Option ℤ
signed_of [] = None
signed_of (b ∷ bs) = cond (b == 45) (negative_of (decimal_below (2 ^ 31 + 1) bs)) (positive_of (decimal_below (2 ^ 31) (b ∷ bs)))

-- The value of a word of exactly eight hexadecimal digits.
abbrev pub hex_word_of : List ℕ → Option ℕ
hex_word_of w = cond (length w == 8 && all_digits 16 w) (Some (value_of 16 w)) None

-- The words that words of eight hexadecimal digits write; none where a word is not one.
abbrev pub consed : Option ℕ → Option (List ℕ) → Option (List ℕ)
consed None vs = None
consed (Some v) None = None
consed (Some v) (Some vs) = Some (v ∷ vs)

abbrev pub hex_words_of : List (List ℕ) → Option (List ℕ)
hex_words_of [] = Some []
hex_words_of (w ∷ ws) = consed (hex_word_of w) (hex_words_of ws)
