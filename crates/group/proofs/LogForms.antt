-- What each function of a log leaves where it is carried out, and what it does not change.
use Rattle.std.proofs.Common.{◌≡◌, ℕ, ◌+◌, ◌<◌, ◌≤◌, true, leb, List, [], ◌∷◌, ◌++◌, length, set, replicate, Some, Option, ap, ◌∙◌, arith}
use Rattle.std.proofs.lemmas.Bool.Decides.{nat_tests}
use Rattle.words.specs.Bits.{every}
use Rattle.words.specs.Messages.{MessageValue}
use Rattle.words.specs.Pages.{PageValue, a_closing, page_of}
use Rattle.words.proofs.PageSpelling.{page_spelling}
use Rattle.logs.specs.LogModel.{Entry, LogModel, Marks, a_log, a_mark, held, marks, with_entries, last_version, can_commit, committed, can_copy, copied, passed, noted, closed, mark_cleared, all_within}
use Rattle.site.specs.Making.{is_zero, is_fresh_log}
use Rattle.std.proofs.lemmas.List.{length_push}
use Rattle.site.specs.Certify.{log_after}
use Rattle.site.specs.CatchUp.{log_taken}
use Rattle.group.proofs.Leasts.{every_within, all_zeros}

-- other entries above the same floor, and the marks of the next place
abbrev pub with_held : LogModel → List Entry → Marks → LogModel
with_held l es k = a_log (with_entries (held l) l.floor es) k

abbrev pub next_mark : LogModel → List ℕ → Marks
next_mark l ks = a_mark (l.place + 1) ks l.tickets l.whole

module _ (l : LogModel) where
  pub passed_is : l.place < 268435455 → passed l ≡ with_held l l.entries (next_mark l l.known)
  passed_is h = grind (arith, nat_tests)

  pub noted_is : (i k : ℕ) → i < length l.known → k ≤ 268435455 → l.place < 268435455 →
      noted l i k ≡ with_held l l.entries (next_mark l (set l.known i k))
  noted_is i k own small room = grind (arith, nat_tests)

  pub committed_is : (e : Entry) → can_commit l e ≡ true → committed l e ≡ with_held l (l.entries ++ (e ∷ [])) (next_mark l l.known)
  committed_is e h = grind (arith, nat_tests)

  pub copied_is : (e : Entry) → can_copy l e ≡ true → copied l e ≡ with_held l (l.entries ++ (e ∷ [])) (mark_cleared (marks l))
  copied_is e h = grind (arith, nat_tests)

-- the floor and the tickets stay, and the last version does not fall
pub record Grows (l l' : LogModel) : Type 0 where
  pub floor : l'.floor ≡ l.floor
  pub last : last_version l ≤ last_version l'
  pub tickets : l'.tickets ≡ l.tickets

module _ (l : LogModel) where
  -- a message, and a page
  pub after_on : (o : Option MessageValue) → Grows l (log_after l o)
  after_on o = grind (arith, nat_tests, length_push)

  pub after_whole : (o : Option MessageValue) → (log_after l o).whole ≡ l.whole
  after_whole o = grind (arith, nat_tests)

  pub taken_on : (p : PageValue) → Grows l (log_taken l p)
  taken_on p = grind (arith, nat_tests, length_push)

-- a closing page that is read in a group
pub record Closes (n d : ℕ) (ks : List ℕ) : Type 0 where
  pub many : length ks ≡ n
  pub place : d ≤ 268435455
  pub within : all_within ks ≡ true

pub closes : (n v d : ℕ) (ks ws : List ℕ) → page_of n ws ≡ Some (a_closing v d ks) → Closes n d ks
closes n v d ks ws e =
    let valid = ((page_spelling n ws (a_closing v d ks)).0 e).1 in
    let bounds : (length ks ≡ n) × (v ≤ d) × (d ≤ 268435455) × (every (λ k. leb k v) ks ≡ true) = grind (arith, nat_tests) in
    record { many = bounds.0; place = bounds.2; within = every_within v ks (omega arith) bounds.3 }

pub closed_is : (n d : ℕ) (ks : List ℕ) (l : LogModel) → length l.known ≡ n → Closes n d ks →
    closed l d ks ≡ with_held l l.entries (a_mark d ks l.tickets true)
closed_is n d ks l size c = grind (arith, nat_tests)

-- a log that nothing has happened to
pub record Unused (n : ℕ) (l : LogModel) : Type 0 where
  pub last : last_version l ≡ 0
  pub place : l.place ≡ 0
  pub known : l.known ≡ replicate n 0

pub unused : (n : ℕ) (l : LogModel) → length l.known ≡ n → is_fresh_log l ≡ true → Unused n l
unused n l size fresh =
    let zeros : every is_zero l.known ≡ true = grind (arith, nat_tests) in
    record {
      last = grind (arith, nat_tests);
      place = grind (arith, nat_tests);
      known = all_zeros l.known zeros ∙ ap (λ k. replicate k 0) size;
    }
