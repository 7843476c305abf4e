-- Names. A word is the list of its bytes.
use Rattle.std.specs.Prelude.{ℕ, Bool, false, ◌&&◌, ◌||◌, List, [], ◌∷◌, nat_le}
use Rattle.std.specs.List.{list_all}

-- A lower-case letter: a to z.
abbrev pub is_lower : ℕ → Bool
is_lower b = nat_le 97 b && nat_le b 122

-- A letter of either case, or a digit.
abbrev pub is_letter_or_digit : ℕ → Bool
is_letter_or_digit b = is_lower b || ((nat_le 65 b && nat_le b 90) || (nat_le 48 b && nat_le b 57))

-- Whether each byte is a letter or a digit.
abbrev pub all_letters_or_digits : List ℕ → Bool
all_letters_or_digits bs = list_all is_letter_or_digit bs

-- A name is a lower-case letter, then letters and digits.
abbrev pub is_name : List ℕ → Bool
is_name [] = false
is_name (b ∷ bs) = is_lower b && all_letters_or_digits bs
