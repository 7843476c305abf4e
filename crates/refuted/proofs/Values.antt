-- Wrong values: a read that is not of its snapshot, a look that is not of the versions sealed.
use Rattle.std.proofs.Common.{ℕ, List, [], ◌∷◌, pos, Some, None, refl}
use Rattle.site.specs.Calls.{Begin, Read, Look, Deliver, Step, Prune}
use Rattle.refuted.specs.Wrong.{Refuted, sealing_nothing, reading_at_present, pruning_to_present}
use Rattle.refuted.specs.Plays.{Move, at}
use Rattle.refuted.proofs.Scripts.{edit_words, first_draft, by_law, read_right}

-- two writes of item 1, the second having read the first
abbrev first : List ℕ
first = edit_words 1 1 0 1 10

abbrev second : List ℕ
second = edit_words 1 2 1 1 20

-- site 0 opens, stages and seals a version of one write, and goes on
abbrev sealing : List Move → List Move
sealing xs = at 0 Step ∷ (at 0 Step ∷ (at 0 Step ∷ xs))

-- nothing, where 10 was sealed
pub sealing_nothing_refuted : Refuted sealing_nothing
sealing_nothing_refuted law =
    let moves : List Move = at 0 (Deliver 1 first) ∷ sealing (at 0 (Look 1) ∷ []) in
    let right = (by_law law (first ∷ []) moves refl).0.0.looks 1 None refl refl in
    cc

-- 10, where nothing stood when the draft began
pub reading_at_present_refuted : Refuted reading_at_present
reading_at_present_refuted law =
    let moves : List Move = at 0 Begin ∷ (at 0 (Deliver 1 first) ∷ sealing (at 0 (Read first_draft 1) ∷ [])) in
    let right = read_right _ _ _ _ _ 0 ((by_law law (first ∷ []) moves refl).0.0.reads first_draft 1 (Some (pos 10)) refl refl) refl in
    cc

-- nothing, where 10 stood when the draft began
pub pruning_to_present_refuted : Refuted pruning_to_present
pruning_to_present_refuted law =
    let later : List Move = at 0 (Deliver 2 second) ∷ sealing (at 0 Prune ∷ (at 0 (Read first_draft 1) ∷ [])) in
    let moves : List Move = at 0 (Deliver 1 first) ∷ sealing (at 0 Begin ∷ later) in
    let right = read_right _ _ _ _ _ 1 ((by_law law (first ∷ (second ∷ [])) moves refl).0.0.reads first_draft 1 None refl refl) refl in
    cc
