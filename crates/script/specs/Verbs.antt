-- The names of the calls at a site.
use Rattle.std.specs.Prelude.{ℕ, cond, List, [], ◌∷◌, map, Some, None, Ok, Err, codes, Option, Result}
use Rattle.std.specs.Borrow.{Bor}
use Rattle.std.specs.Str.{bytes_eq}
use Rattle.script.specs.declared.faults.Fault.{Fault}
use Rattle.script.specs.declared.verbs.Verb.{Verb}
use Rattle.script.specs.declared.verbs.Verb.TheVariants.{Begin, Read, Look, Write, Post, GiveUp, LetGo, Outcome, Deliver, Step, Report, Page, Take, Trim, Prune, Crash, Wake, Show}

-- What a word names in a table, whose first row of that name counts.
abbrev pub named : {A : Type 0} → List (List ℕ × A) → List ℕ → Option A
named [] w = None
named (row ∷ rows) w = cond (bytes_eq w row.0) (Some row.1) (named rows w)

-- What the first word names, and the words after it.
abbrev pub named_then : {A : Type 0} → Option A → Fault → List (List ℕ) → Result (A × List (List ℕ)) Fault
named_then None missing ws = Err missing
named_then (Some a) missing ws = Ok (a, ws)

abbrev pub named_first : {A : Type 0} → List (List ℕ × A) → Fault → List (List ℕ) → Result (A × List (List ℕ)) Fault
named_first rows missing [] = Err missing
named_first rows missing (w ∷ ws) = named_then (named rows w) missing ws

-- The rows of a table, by their bytes.
abbrev pub row_values : {A : Type 0} → List (Bor (List ℕ) × A) → List (List ℕ × A)
row_values rows = map (λ row. (row.0.now, row.1)) rows

-- All calls, each under its name.
abbrev pub verbs : List (List ℕ × Verb)
verbs =
    (codes "begin", Begin) ∷
    (codes "read", Read) ∷
    (codes "look", Look) ∷
    (codes "write", Write) ∷
    (codes "post", Post) ∷
    (codes "give_up", GiveUp) ∷
    (codes "let_go", LetGo) ∷
    (codes "outcome", Outcome) ∷
    (codes "deliver", Deliver) ∷
    (codes "step", Step) ∷
    (codes "report", Report) ∷
    (codes "page", Page) ∷
    (codes "take", Take) ∷
    (codes "trim", Trim) ∷
    (codes "prune", Prune) ∷
    (codes "crash", Crash) ∷
    (codes "wake", Wake) ∷
    (codes "show", Show) ∷
    []
