-- A word: 32 bits, a kind in the top four and a load in the low 28.
use Rattle.std.specs.Prelude.{ℕ, ◌+◌, ◌-◌, ◌*◌, ◌/◌, ◌%◌, Bool, true, cond, ◌&&◌, List, [], ◌∷◌, ℤ, pos, negsuc, ◌==◌, nat_le, nat_lt}

abbrev pub kind_of : ℕ → ℕ
kind_of w = w / 268435456

abbrev pub load_of : ℕ → ℕ
load_of w = w % 268435456

-- The word of a kind and a load.
abbrev pub word : ℕ → ℕ → ℕ
word k l = k * 268435456 + l

-- A load as a value, and back: two's complement in 28 bits.
abbrev pub value_of : ℕ → ℤ
value_of l = cond (nat_lt l 134217728) (pos l) (negsuc (268435455 - l))

abbrev pub value_load : ℤ → ℕ
value_load (pos n) = n
value_load (negsuc n) = 268435455 - n

-- A value of 28 bits; `negsuc n` is the integer -n - 1.
abbrev pub value_fits : ℤ → Bool
value_fits (pos n) = nat_lt n 134217728
value_fits (negsuc n) = nat_lt n 134217728

-- A head has a site in load bits 27 to 24, a count in bits 7 to 0, and no other bit.
abbrev pub site_of : ℕ → ℕ
site_of w = w / 16777216 % 16

abbrev pub count_of : ℕ → ℕ
count_of w = w % 256

abbrev pub clear_between : ℕ → Bool
clear_between w = w / 256 % 65536 == 0

abbrev pub head : ℕ → ℕ → ℕ → ℕ
head k site count = word k (site * 16777216 + count)

-- A word of a kind that carries a number, not below the least one.
abbrev pub is_number : ℕ → ℕ → ℕ → Bool
is_number k least w = kind_of w == k && nat_le least (load_of w)

-- A number that a load holds, not below the least one.
abbrev pub in_range : ℕ → ℕ → Bool
in_range least x = nat_le least x && nat_lt x 268435456

-- How many sites a group has.
abbrev pub is_group : ℕ → Bool
is_group n = nat_le 2 n && nat_le n 8

-- Whether every number of a list passes a test.
abbrev pub every : (ℕ → Bool) → List ℕ → Bool
every p [] = true
every p (x ∷ xs) = p x && every p xs
