-- Lines that have words, with their numbers.
use Rattle.std.specs.Prelude.{◌≡◌, ℕ, ◌+◌, ◌-◌, ◌<◌, ◌^◌, length, min, cond, List, [], ◌∷◌, MatchOption, Option}
use Rattle.std.specs.Iterator.{Count, YieldsFirstBy, item_count}
use Rattle.text.specs.Split.{content_of, lines, words, none_in}
use Rattle.text.specs.declared.lines.Line.{Line}
use Rattle.text.specs.declared.lines.Lines.{Lines}

-- The number of the line after n lines. It stays at what 64 bits hold.
abbrev pub number_after : ℕ → ℕ
number_after n = min (n + 1) (2 ^ 64 - 1)

-- The lines that have words, each with its number and without its comment, where n lines stand before them.
abbrev pub worded : ℕ → List (List ℕ) → List (ℕ × List ℕ)
worded n [] = []
worded n (l ∷ ls) = cond (none_in (words (content_of l))) (worded (number_after n) ls) ((number_after n, content_of l) ∷ worded (number_after n) ls)

-- A line's number and its words.
abbrev pub line_value : Line → ℕ × List ℕ
line_value line = (line.number, line.words.now)

-- What is still to come.
abbrev pub lines_left : Lines → List (ℕ × List ℕ)
lines_left s = worded s.number (lines s.rest.now)

abbrev pub count_left : Lines → Count
count_left = item_count lines_left

-- How many lines there are in all, where n stand before these.
abbrev pub counted : ℕ → List (List ℕ) → ℕ
counted n [] = n
counted n (l ∷ ls) = counted (number_after n) ls

abbrev pub lines_in_all : Lines → ℕ
lines_in_all s = counted s.number (lines s.rest.now)

-- Each call gives the first line of those that are left, and the text that is read on from then, which is shorter than the text
-- before; at the end all lines are counted.
abbrev pub NextLine : Lines → Option Line → Lines → Type 0
NextLine s r t =
    YieldsFirstBy line_value lines_left s r t × (lines_in_all t ≡ lines_in_all s)
    × MatchOption r (lines t.rest.now ≡ []) (λ line. (line.after ≡ t.rest) × (line.number ≡ t.number) × (length line.after.now < length s.rest.now))
