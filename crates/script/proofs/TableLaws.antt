-- Tables of names.
use Rattle.std.proofs.Common.{◌≡◌, ℕ, Bool, true, false, cond, List, [], ◌∷◌, Some, Bor, refl}
use Rattle.std.specs.List.{find}
use Rattle.std.specs.Option.{option_map}
use Rattle.std.specs.Str.{bytes_eq}
use Rattle.script.specs.Verbs.{named, row_values}

-- the first row with that name, by the rows as they stand in memory
pub named_found : {A : Type 0} (w : List ℕ) (rows : List (Bor (List ℕ) × A)) → option_map (λ row. row.1) (find (λ row. bytes_eq w row.0.now) rows) ≡ named (row_values rows) w
named_found w [] = refl
named_found {A} w (row ∷ rows) = step (bytes_eq w row.0.now) (named_found w rows)
  where
    step : (x : Bool) → option_map (λ r. r.1) (find (λ r. bytes_eq w r.0.now) rows) ≡ named (row_values rows) w
        → option_map (λ r. r.1) (cond x (Some row) (find (λ r. bytes_eq w r.0.now) rows)) ≡ cond x (Some row.1) (named (row_values rows) w)
    step true ih = refl
    step false ih = ih
