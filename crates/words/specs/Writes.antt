-- Writes: an item word, then a value or a removal word.
use Rattle.std.specs.Prelude.{ℕ, suc, Bool, true, false, cond, ◌&&◌, List, [], ◌∷◌, length, is_some, Some, None, Option, ◌==◌, nat_le, nat_lt}
use Rattle.std.specs.Option.{option_map}
use Rattle.words.specs.declared.changes.Change.{Change}
use Rattle.words.specs.declared.changes.Change.TheVariants.{Set, Remove}
use Rattle.words.specs.declared.changes.Write.{Write}
use Rattle.words.specs.Bits.{kind_of, load_of, word, value_of, value_load, value_fits, site_of, count_of, clear_between}

abbrev pub a_write : ℕ → Change → Write
a_write i x = record { item = i; change = x }

-- The change that a word says, if any: kind 6 is a value, the bare kind 7 a removal.
abbrev pub change_of : ℕ → Option Change
change_of w =
    cond (kind_of w == 6) (Some (Set (value_of (load_of w)))) (cond (w == word 7 0) (Some Remove) None)

-- The write that two words say, if any.
abbrev pub write_of : ℕ → ℕ → Option Write
write_of i c = cond (kind_of i == 5) (option_map (a_write (load_of i)) (change_of c)) None

-- The write that begins the words, and the words after it.
abbrev pub first_write : List ℕ → Option Write
first_write [] = None
first_write (i ∷ []) = None
first_write (i ∷ (c ∷ ws)) = write_of i c

abbrev pub after_write : List ℕ → List ℕ
after_write [] = []
after_write (i ∷ []) = i ∷ []
after_write (i ∷ (c ∷ ws)) = cond (is_some (write_of i c)) ws (i ∷ (c ∷ ws))

abbrev pub and_then : Option Write → List Write → List Write
and_then None l = []
and_then (Some w) l = w ∷ l

-- The writes that the words begin with, as far as they go.
abbrev pub leading : List ℕ → List Write
leading [] = []
leading (i ∷ []) = []
leading (i ∷ (c ∷ ws)) = and_then (write_of i c) (leading ws)

abbrev pub consed : Option Write → Option (List Write) → Option (List Write)
consed None o = None
consed (Some w) o = option_map (λ l. w ∷ l) o

-- The writes that the words are, if they are writes and nothing else.
abbrev pub all_writes : List ℕ → Option (List Write)
all_writes [] = Some []
all_writes (i ∷ []) = None
all_writes (i ∷ (c ∷ ws)) = consed (write_of i c) (all_writes ws)

-- Items rise strictly, from `low` on.
abbrev pub rising : ℕ → List Write → Bool
rising low [] = true
rising low (w ∷ l) = nat_le low w.item && rising (suc w.item) l

abbrev pub rising_count : ℕ → ℕ → Option (List Write) → Bool
rising_count low n None = false
rising_count low n (Some l) = length l == n && rising low l

-- Whether the words are n writes and nothing else, with items that rise strictly from `low` on.
abbrev pub are_writes : ℕ → ℕ → List ℕ → Bool
are_writes low n ws = rising_count low n (all_writes ws)

-- Whether a head of kind k in a group of n sites is that of 1 to 16 writes, which the words after the front are.
abbrev pub heads : ℕ → ℕ → ℕ → List ℕ → Bool
heads n k h ws =
    (kind_of h == k) && (clear_between h && (nat_lt (site_of h) n && (nat_le 1 (count_of h) && (nat_le (count_of h) 16
    && are_writes 0 (count_of h) ws))))

-- The words of a change, and of writes.
abbrev pub change_word : Change → ℕ
change_word (Set z) = word 6 (value_load z)
change_word Remove = word 7 0

abbrev pub writes_words : List Write → List ℕ
writes_words [] = []
writes_words (w ∷ l) = word 5 w.item ∷ (change_word w.change ∷ writes_words l)

-- Whether a value is in range, and a write with an item that is not below `low`.
abbrev pub change_fits : Change → Bool
change_fits (Set z) = value_fits z
change_fits Remove = true

abbrev pub write_fits : ℕ → Write → Bool
write_fits low w = nat_le low w.item && (nat_lt w.item 268435456 && change_fits w.change)

-- Whether each write is in range, whatever the order of the items.
abbrev pub all_fit : List Write → Bool
all_fit [] = true
all_fit (w ∷ l) = write_fits 0 w && all_fit l

-- Whether they are in range, with items that rise strictly from `low` on.
abbrev pub fit_from : ℕ → List Write → Bool
fit_from low [] = true
fit_from low (w ∷ l) = write_fits low w && fit_from (suc w.item) l

-- The writes of one edit: 1 to 16, in range, by rising item.
abbrev pub valid_writes : List Write → Bool
valid_writes l = nat_le 1 (length l) && (nat_le (length l) 16 && fit_from 0 l)
