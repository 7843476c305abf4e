-- The calls at a site, by the words after the call's name.
use Rattle.std.specs.Prelude.{ℕ, cond, List, Some, None, Ok, Result}
use Rattle.text.specs.Split.{none_in}
use Rattle.script.specs.declared.faults.Fault.{Fault}
use Rattle.script.specs.declared.verbs.Verb.{Verb}
use Rattle.script.specs.declared.verbs.Verb.TheVariants as verb
use Rattle.script.specs.Values.{DeedValue, Begin, Read, Look, Write, Post, GiveUp, LetGo, Outcome, Deliver, Step, Report, Page, Take, Trim, Prune, Crash, Wake, Show, then, told}
use Rattle.script.specs.Parts.{end_in, name_first, number_first, change_first, source_in, buffer_in}

-- A name and nothing else; a number and nothing else.
abbrev pub name_in : List (List ℕ) → Result (List ℕ) Fault
name_in ws = then (name_first ws) (λ n. then (end_in n.1) (λ _. Ok n.0))

abbrev pub number_in : List (List ℕ) → Result ℕ Fault
number_in ws = then (number_first ws) (λ n. then (end_in n.1) (λ _. Ok n.0))

abbrev pub read_in : List (List ℕ) → Result DeedValue Fault
read_in ws = then (name_first ws) (λ n. told (Read n.0) (number_in n.1))

abbrev pub write_in : List (List ℕ) → Result DeedValue Fault
write_in ws =
    then (name_first ws) (λ n. then (number_first n.1) (λ i. then (change_first i.1) (λ c. then (end_in c.1) (λ _. Ok (Write n.0 i.0 c.0)))))

abbrev pub post_in : List (List ℕ) → Result DeedValue Fault
post_in ws = then (name_first ws) (λ n. told (Post n.0) (buffer_in n.1))

abbrev pub page_in : List (List ℕ) → Result DeedValue Fault
page_in ws = then (number_first ws) (λ v. told (Page v.0) (buffer_in v.1))

-- A place, and perhaps words to hand in instead of those of the place.
abbrev pub deliver_in : List (List ℕ) → Result DeedValue Fault
deliver_in ws =
    then (number_first ws) (λ p. cond (none_in p.1) (Ok (Deliver p.0 None)) (told (λ s. Deliver p.0 (Some s)) (source_in p.1)))

-- A call that takes nothing.
abbrev pub bare_in : DeedValue → List (List ℕ) → Result DeedValue Fault
bare_in d ws = then (end_in ws) (λ _. Ok d)

abbrev pub deed_in : Verb → List (List ℕ) → Result DeedValue Fault
deed_in verb.Begin ws = told Begin (name_in ws)
deed_in verb.Read ws = read_in ws
deed_in verb.Look ws = told Look (number_in ws)
deed_in verb.Write ws = write_in ws
deed_in verb.Post ws = post_in ws
deed_in verb.GiveUp ws = told GiveUp (name_in ws)
deed_in verb.LetGo ws = told LetGo (name_in ws)
deed_in verb.Outcome ws = told Outcome (name_in ws)
deed_in verb.Deliver ws = deliver_in ws
deed_in verb.Step ws = bare_in Step ws
deed_in verb.Report ws = told Report (buffer_in ws)
deed_in verb.Page ws = page_in ws
deed_in verb.Take ws = told Take (source_in ws)
deed_in verb.Trim ws = bare_in Trim ws
deed_in verb.Prune ws = bare_in Prune ws
deed_in verb.Crash ws = bare_in Crash ws
deed_in verb.Wake ws = bare_in Wake ws
deed_in verb.Show ws = bare_in Show ws
