-- Wrong records: an outcome of another's delivery, and a log whose entries stand at other versions.
use Rattle.std.proofs.Common.{◌≡◌, ℕ, List, [], ◌∷◌, pos, Some, Option, refl, ap}
use Rattle.std.specs.Option.{option_map}
use Rattle.words.specs.declared.changes.Change.TheVariants.{Set}
use Rattle.words.specs.Writes.{a_write}
use Rattle.account.specs.declared.decisions.Decision.TheVariants.{Commit}
use Rattle.site.specs.Calls.{Begin, Put, Post, Outcome, Deliver, Trim}
use Rattle.refuted.specs.Wrong.{Refuted, settling_by_any, dropping_one_more}
use Rattle.refuted.specs.Plays.{Move, at}
use Rattle.refuted.proofs.Scripts.{edit_words, first_draft, by_law}

-- told Commit 1, with no delivery of the posted words
pub settling_by_any_refuted : Refuted settling_by_any
settling_by_any_refuted law =
    let other = edit_words 1 1 0 2 20 in
    let moves : List Move = at 0 Begin ∷ (at 0 (Put first_draft (a_write 1 (Set (pos 10)))) ∷ (at 0 (Post first_draft 16)
    ∷ (at 0 (Deliver 1 other) ∷ (at 0 (Outcome first_draft) ∷ [])))) in
    let right = ((by_law law (other ∷ []) moves refl).0.0.tells first_draft (Commit 1) refl refl).told in
    cc

-- the entry at version 1 is the second commit
pub dropping_one_more_refuted : Refuted dropping_one_more
dropping_one_more_refuted law =
    let first = edit_words 0 1 0 1 10 in
    let second = edit_words 1 2 0 2 20 in
    let moves : List Move = at 0 (Deliver 1 first) ∷ (at 0 (Deliver 2 second) ∷ (at 0 Trim ∷ [])) in
    let right = (by_law law (first ∷ (second ∷ [])) moves refl).1 0 _ refl 1 _ refl in
    let tickets : ◌≡◌ {A = Option ℕ} (Some 1) (Some 2) = ap (option_map (λ c. c.ticket)) right in
    cc
