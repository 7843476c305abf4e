-- A line of a scenario, by its words.
use Rattle.std.specs.Prelude.{ℕ, cond, List, [], ◌∷◌, Some, None, Ok, Err, codes, Option, Result}
use Rattle.std.specs.Str.{bytes_eq}
use Rattle.text.specs.Numbers.{decimal_of}
use Rattle.script.specs.declared.asks.StoreKind.{StoreKind}
use Rattle.script.specs.declared.asks.StoreKind.TheVariants.{Journal, Chains}
use Rattle.script.specs.declared.asks.LogKind.{LogKind}
use Rattle.script.specs.declared.asks.LogKind.TheVariants.{Flat, Packed}
use Rattle.script.specs.declared.faults.Fault.{Fault}
use Rattle.script.specs.declared.faults.Fault.TheVariants.{NoCall, NoVerb, NoStore, NoLog}
use Rattle.script.specs.Values.{AskValue, Group, Site, Send, At, then, told}
use Rattle.script.specs.Verbs.{named_first, verbs}
use Rattle.script.specs.Parts.{end_in, number_first, source_in}
use Rattle.script.specs.Deeds.{number_in, deed_in}

-- `group N`
abbrev pub group_in : List (List ℕ) → Result AskValue Fault
group_in ws = told Group (number_in ws)

-- The stores and the logs, each under its name.
abbrev pub stores : List (List ℕ × StoreKind)
stores = (codes "journal", Journal) ∷ (codes "chains", Chains) ∷ []

abbrev pub store_first : List (List ℕ) → Result (StoreKind × List (List ℕ)) Fault
store_first ws = named_first stores NoStore ws

abbrev pub logs : List (List ℕ × LogKind)
logs = (codes "flat", Flat) ∷ (codes "packed", Packed) ∷ []

abbrev pub log_first : List (List ℕ) → Result (LogKind × List (List ℕ)) Fault
log_first ws = named_first logs NoLog ws

-- `site I STORE RECORDS LOG ROOM`
abbrev pub site_in : List (List ℕ) → Result AskValue Fault
site_in ws =
    then (number_first ws) (λ i. then (store_first i.1) (λ s. then (number_first s.1) (λ n. then (log_first n.1) (λ l. then (number_first l.1) (λ k.
    then (end_in k.1) (λ _. Ok (Site i.0 s.0 n.0 l.0 k.0)))))))

-- `send M` and `send WORDS`
abbrev pub send_in : List (List ℕ) → Result AskValue Fault
send_in ws = told Send (source_in ws)

-- A call at site I.
abbrev pub at_in : ℕ → List (List ℕ) → Result AskValue Fault
at_in i ws = then (named_first verbs NoVerb ws) (λ v. told (At i) (deed_in v.0 v.1))

abbrev pub at_site : Option ℕ → List (List ℕ) → Result AskValue Fault
at_site None ws = Err NoCall
at_site (Some i) ws = at_in i ws

-- A whole line.
abbrev pub line_in : List (List ℕ) → Result AskValue Fault
line_in [] = Err NoCall
line_in (w ∷ ws) =
    cond (bytes_eq w (codes "group")) (group_in ws)
    (cond (bytes_eq w (codes "site")) (site_in ws)
    (cond (bytes_eq w (codes "send")) (send_in ws) (at_site (decimal_of w) ws)))
