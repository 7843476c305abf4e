-- How the bytes of a name are tested.
use Rattle.std.proofs.Common.{◌≡◌, ℕ, ◌<◌, Bool, true, false, ◌&&◌, ◌||◌, nat_le, List, [], ◌∷◌, length, get_or, drop, refl, arith}
use Rattle.std.specs.Char.{is_ascii_alphanumeric}
use Rattle.text.specs.Names.{is_lower, is_letter_or_digit, all_letters_or_digits, is_name}

-- the library's letters and digits are ours
pub alphanumeric : (b : ℕ) → is_ascii_alphanumeric b ≡ is_letter_or_digit b
alphanumeric b = turned (nat_le 48 b && nat_le b 57) (nat_le 65 b && nat_le b 90) (is_lower b)
  where
    turned : (x y z : Bool) → ((x || y) || z) ≡ (z || (y || x))
    turned true true true = refl
    turned true true false = refl
    turned true false true = refl
    turned true false false = refl
    turned false true true = refl
    turned false true false = refl
    turned false false true = refl
    turned false false false = refl

-- a name by its first byte and the rest
pub name_parts : (w : List ℕ) → 0 < length w → is_name w ≡ (is_lower (get_or w 0 0) && all_letters_or_digits (drop 1 w))
name_parts [] h = absurd (omega arith)
name_parts (b ∷ bs) h = refl
