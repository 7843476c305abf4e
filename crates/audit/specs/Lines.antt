-- What the lines of a saved list say, by their words.
use Rattle.std.specs.Prelude.{◌≡◌, ℕ, Bool, false, cond, List, [], ◌∷◌, Some, None, Ok, Err, vec_items, codes, Option, Result, Vec}
use Rattle.std.specs.declared.alloc.Global.{Global}
use Rattle.std.specs.Str.{bytes_eq}
use Rattle.text.specs.Numbers.{decimal_of, hex_words_of}
use Rattle.audit.specs.declared.lines.Reason.{Reason}
use Rattle.audit.specs.declared.lines.Reason.TheVariants.{NoGroup, NoWord, NoMemory}

-- The number of sites, if a number is there.
abbrev pub sites_in : Option ℕ → Result ℕ Reason
sites_in None = Err NoGroup
sites_in (Some n) = Ok n

-- The first line: the word `group`, a number, and nothing else.
abbrev pub group_line : List (List ℕ) → Result ℕ Reason
group_line [] = Err NoGroup
group_line (g ∷ []) = Err NoGroup
group_line (g ∷ (n ∷ [])) = cond (bytes_eq g (codes "group")) (sites_in (decimal_of n)) (Err NoGroup)
group_line (g ∷ (n ∷ (x ∷ ws))) = Err NoGroup

-- The words of a message, if all are spelt.
abbrev pub words_in : Option (List ℕ) → Result (List ℕ) Reason
words_in None = Err NoWord
words_in (Some ws) = Ok ws

-- Whether the line is a lone `-`, a message of no words.
abbrev pub is_dash : List (List ℕ) → Bool
is_dash [] = false
is_dash (w ∷ []) = bytes_eq w (codes "-")
is_dash (w ∷ (x ∷ ws)) = false

-- Any later line: the words of a message.
abbrev pub message_line : List (List ℕ) → Result (List ℕ) Reason
message_line ws = cond (is_dash ws) (Ok []) (words_in (hex_words_of ws))

-- A message parsed: its words, or why there are none; memory may fail.
abbrev pub Parsed : List (List ℕ) → Result (Vec ℕ Global) Reason → Type 0
Parsed ws (Ok v) = message_line ws ≡ Ok (vec_items v)
Parsed ws (Err NoWord) = message_line ws ≡ Err NoWord
Parsed ws (Err NoGroup) = ⊥
Parsed ws (Err NoMemory) = Unit {0}
