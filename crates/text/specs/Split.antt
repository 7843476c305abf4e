-- Lines of a text, and words of a line. A text is the list of its bytes.
use Rattle.std.specs.Prelude.{◌≡◌, ℕ, ◌+◌, ◌-◌, Bool, true, false, cond, not, ◌||◌, List, [], ◌∷◌, length, take, drop, ◌==◌}
use Rattle.std.specs.Borrow.{Bor}
use Rattle.std.specs.List.{position_or_len}

-- Words are parted by blanks: space, tab and carriage return.
abbrev pub is_blank : ℕ → Bool
is_blank b = b == 32 || (b == 9 || b == 13)

-- What a line ends at, what its content ends at, and what blanks end at; a word ends at a blank.
abbrev pub is_newline : ℕ → Bool
is_newline b = b == 10

abbrev pub is_hash : ℕ → Bool
is_hash b = b == 35

abbrev pub is_of_word : ℕ → Bool
is_of_word b = not (is_blank b)

-- The text before the first byte that ends a part, all of it where there is none.
abbrev pub front : (ℕ → Bool) → List ℕ → List ℕ
front ends t = take (position_or_len ends t) t

-- The text from that byte on.
abbrev pub beyond : (ℕ → Bool) → List ℕ → List ℕ
beyond ends t = drop (position_or_len ends t) t

-- The first line, without its newline.
abbrev pub first_line : List ℕ → List ℕ
first_line t = front is_newline t

-- The text after the first newline.
abbrev pub after_line : List ℕ → List ℕ
after_line t = drop 1 (beyond is_newline t)

-- A line without its comment.
abbrev pub content_of : List ℕ → List ℕ
content_of l = front is_hash l

-- The blanks before the first word.
abbrev pub blanks : List ℕ → List ℕ
blanks t = front is_of_word t

-- The text from the first word on.
abbrev pub from_word : List ℕ → List ℕ
from_word t = beyond is_of_word t

-- The first word. It is empty where there is none.
abbrev pub first_word : List ℕ → List ℕ
first_word t = front is_blank (from_word t)

-- The text after the first word.
abbrev pub after_word : List ℕ → List ℕ
after_word t = beyond is_blank (from_word t)

-- A byte put before the first of several texts.
abbrev pub begun : ℕ → List (List ℕ) → List (List ℕ)
begun b [] = (b ∷ []) ∷ []
begun b (t ∷ ts) = (b ∷ t) ∷ ts

-- All lines of a text. A newline ends a line, and the last line may lack it.
abbrev pub lines : List ℕ → List (List ℕ)
lines [] = []
lines (b ∷ bs) = cond (b == 10) ([] ∷ lines bs) (begun b (lines bs))

-- Whether the text begins with a byte of a word.
abbrev pub in_word : List ℕ → Bool
in_word [] = false
in_word (b ∷ bs) = not (is_blank b)

-- All words of a text.
abbrev pub words : List ℕ → List (List ℕ)
words [] = []
words (b ∷ bs) = cond (is_blank b) (words bs) (cond (in_word bs) (begun b (words bs)) ((b ∷ []) ∷ words bs))

-- A first word before the words that follow it. Where it is empty there are none.
abbrev pub led : List ℕ → List (List ℕ) → List (List ℕ)
led [] ws = []
led (b ∷ bs) ws = (b ∷ bs) ∷ ws

-- Whether there are no words.
abbrev pub none_in : List (List ℕ) → Bool
none_in [] = true
none_in (w ∷ ws) = false

-- The part is memory of the whole, from its byte n on.
abbrev pub PartAt : Bor (List ℕ) → ℕ → Bor (List ℕ) → Type 0
PartAt whole n part = part.ref_ptr ≡ (whole.ref_ptr.0, whole.ref_ptr.1 + n)

-- The part is the last bytes of the whole, in its memory.
abbrev pub LastPart : Bor (List ℕ) → Bor (List ℕ) → Type 0
LastPart whole part = PartAt whole (length whole.now - length part.now) part
