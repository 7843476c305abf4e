-- Single arguments of a line, by the words that are still to be read.
use Rattle.std.specs.Prelude.{ℕ, Bool, cond, List, [], ◌∷◌, ℤ, is_some, Some, None, Ok, Err, codes, Option, Result}
use Rattle.std.specs.Borrow.{Bor}
use Rattle.std.specs.List.{list_all}
use Rattle.std.specs.Str.{bytes_eq}
use Rattle.words.specs.declared.changes.Change.{Change}
use Rattle.words.specs.declared.changes.Change.TheVariants.{Set, Remove}
use Rattle.text.specs.Names.{is_name}
use Rattle.text.specs.Numbers.{decimal_of, signed_of, hex_word_of}
use Rattle.text.specs.Split.{words}
use Rattle.script.specs.declared.faults.Fault.{Fault}
use Rattle.script.specs.declared.faults.Fault.TheVariants.{NoNumber, NoName, NoValue, NoWords, MoreWords}
use Rattle.script.specs.Values.{SourceValue, Named, Spelt, BufferValue, a_buffer, then}

-- Nothing may be left.
abbrev pub end_in : List (List ℕ) → Result (Unit {0}) Fault
end_in [] = Ok tt
end_in (w ∷ ws) = Err MoreWords

-- A name, and the words after it.
abbrev pub name_first : List (List ℕ) → Result (List ℕ × List (List ℕ)) Fault
name_first [] = Err NoName
name_first (w ∷ ws) = cond (is_name w) (Ok (w, ws)) (Err NoName)

-- A number, and the words after it.
abbrev pub number_then : Option ℕ → List (List ℕ) → Result (ℕ × List (List ℕ)) Fault
number_then None ws = Err NoNumber
number_then (Some n) ws = Ok (n, ws)

abbrev pub number_first : List (List ℕ) → Result (ℕ × List (List ℕ)) Fault
number_first [] = Err NoNumber
number_first (w ∷ ws) = number_then (decimal_of w) ws

-- What a function hands on: a value and the text after it.
abbrev pub at_rest : {A : Type 0} → A × Bor (List ℕ) → A × List (List ℕ)
at_rest p = (p.0, words p.1.now)

abbrev pub pair_value : Bor (List ℕ) × Bor (List ℕ) → List ℕ × List (List ℕ)
pair_value p = (p.0.now, words p.1.now)

-- What was read, where nothing is left after it.
abbrev pub only : {A : Type 0} → Result (A × Bor (List ℕ)) Fault → Result A Fault
only read = then read (λ p. then (end_in (words p.1.now)) (λ _. Ok p.0))

-- A change, and the words after it.
abbrev pub value_then : Option ℤ → List (List ℕ) → Result (Change × List (List ℕ)) Fault
value_then None ws = Err NoValue
value_then (Some z) ws = Ok (Set z, ws)

abbrev pub change_first : List (List ℕ) → Result (Change × List (List ℕ)) Fault
change_first [] = Err NoValue
change_first (w ∷ ws) = cond (bytes_eq w (codes "gone")) (Ok (Remove, ws)) (value_then (signed_of w) ws)

-- Whether each is a word of eight hexadecimal digits.
abbrev pub all_spelt : List (List ℕ) → Bool
all_spelt ws = list_all (λ w. is_some (hex_word_of w)) ws

-- Words to hand in: a name and nothing after it, or words, at least one.
abbrev pub source_in : List (List ℕ) → Result SourceValue Fault
source_in [] = Err NoWords
source_in (w ∷ ws) =
    cond (is_name w) (then (end_in ws) (λ _. Ok (Named w))) (cond (all_spelt (w ∷ ws)) (Ok (Spelt (w ∷ ws))) (Err NoWords))

-- The room of a buffer, 40 where none is given, and the words after it.
abbrev pub room_first : List (List ℕ) → Result (ℕ × List (List ℕ)) Fault
room_first [] = Ok (40, [])
room_first (w ∷ ws) = cond (bytes_eq w (codes "room")) (number_first ws) (Ok (40, w ∷ ws))

-- The name for the words written, if one is given.
abbrev pub label_in : List (List ℕ) → Result (Option (List ℕ)) Fault
label_in [] = Ok None
label_in (w ∷ ws) =
    cond (bytes_eq w (codes "as")) (then (name_first ws) (λ n. then (end_in n.1) (λ _. Ok (Some n.0)))) (Err MoreWords)

-- A buffer.
abbrev pub buffer_in : List (List ℕ) → Result BufferValue Fault
buffer_in ws = then (room_first ws) (λ k. then (label_in k.1) (λ m. Ok (a_buffer k.0 m)))
