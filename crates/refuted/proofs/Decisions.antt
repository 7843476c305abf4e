-- Wrong decisions: a place is told otherwise than the account of the whole list decides it.
use Rattle.std.proofs.Common.{ℕ, List, [], ◌∷◌, refl}
use Rattle.words.specs.Pages.{an_entry, page_words}
use Rattle.account.specs.declared.decisions.Decision.TheVariants.{Conflict, Commit}
use Rattle.site.specs.Calls.{Deliver, Page, Take, Trim}
use Rattle.refuted.specs.Wrong.{Refuted, by_floor, while_partial, counting_own_commit, all_in_conflict, made_up_version, trimming_to_last}
use Rattle.refuted.specs.Plays.{Move, at}
use Rattle.refuted.proofs.Scripts.{one_write, edit_words, report_words, by_law}

-- the first write of item 1, and a later one to it that has read nothing, or the first one
abbrev first : List ℕ
first = edit_words 0 1 0 1 10

abbrev unread : List ℕ
unread = edit_words 1 1 0 1 20

abbrev having_read : List ℕ
having_read = edit_words 1 1 1 1 20

-- told Conflict 1, decided Commit 1
pub all_in_conflict_refuted : Refuted all_in_conflict
all_in_conflict_refuted law =
    let right = ((by_law law (first ∷ []) (at 0 (Deliver 1 first) ∷ []) refl).0.0.decides 1 first (Conflict 1) refl refl).account in
    cc

-- told Commit 2, decided Commit 1
pub made_up_version_refuted : Refuted made_up_version
made_up_version_refuted law =
    let right = ((by_law law (first ∷ []) (at 0 (Deliver 1 first) ∷ []) refl).0.0.decides 1 first (Commit 2) refl refl).account in
    cc

-- told Conflict 1, decided Commit 2
pub counting_own_commit_refuted : Refuted counting_own_commit
counting_own_commit_refuted law =
    let moves : List Move = at 0 (Deliver 1 first) ∷ (at 0 (Deliver 2 having_read) ∷ []) in
    let right = ((by_law law (first ∷ (having_read ∷ [])) moves refl).0.0.decides 2 having_read (Conflict 1) refl refl).account in
    cc

-- told Commit 2 by a site that has not trimmed, decided TooOld
pub by_floor_refuted : Refuted by_floor
by_floor_refuted law =
    let other = edit_words 1 1 0 2 20 in
    let ms : List (List ℕ) = first ∷ (report_words 0 1 ∷ (report_words 1 1 ∷ (other ∷ []))) in
    let last : List Move = at 0 (Deliver 3 (report_words 1 1)) ∷ (at 0 (Deliver 4 other) ∷ []) in
    let moves : List Move = at 0 (Deliver 1 first) ∷ (at 0 (Deliver 2 (report_words 0 1)) ∷ last) in
    let right = ((by_law law ms moves refl).0.0.decides 4 other (Commit 2) refl refl).account in
    cc

-- told Commit 2 by a site that has dropped the first commit, decided Conflict 1
pub trimming_to_last_refuted : Refuted trimming_to_last
trimming_to_last_refuted law =
    let moves : List Move = at 0 (Deliver 1 first) ∷ (at 0 Trim ∷ (at 0 (Deliver 2 unread) ∷ [])) in
    let right = ((by_law law (first ∷ (unread ∷ [])) moves refl).0.0.decides 2 unread (Commit 2) refl refl).account in
    cc

-- told Conflict 1 by a site that has the first commit already, from a page, decided Commit 1
pub while_partial_refuted : Refuted while_partial
while_partial_refuted law =
    let page = page_words (an_entry 0 1 1 (one_write 1 10)) in
    let moves : List Move = at 0 (Deliver 1 first) ∷ (at 0 (Page 0 16) ∷ (at 1 (Take page) ∷ (at 1 (Deliver 1 first) ∷ []))) in
    let right = ((by_law law (first ∷ []) moves refl).0.0.decides 1 first (Conflict 1) refl refl).account in
    cc
