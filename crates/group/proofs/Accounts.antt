-- The account of a list: from one place to the next, and what holds of every commit.
use Rattle.std.proofs.Common.{◌≡◌, ℕ, zero, suc, ◌+◌, ◌≤◌, Bool, true, ◌&&◌, ltb, List, [], ◌∷◌, ◌++◌, length, take, drop, Some, None, Option, sym, refl, ap, ◌∙◌, add-one, arith, length-append, take-append-drop}
use Rattle.std.specs.List.{slice_get, All}
use Rattle.std.proofs.lemmas.List.{length-take}
use Rattle.std.proofs.lemmas.List.Elements.{All-nil, All-cons, All-append}
use Rattle.std.proofs.lemmas.Bool.Decides.{nat_tests}
use Rattle.words.specs.Bits.{in_range}
use Rattle.words.specs.Writes.{valid_writes}
use Rattle.words.specs.Messages.{MessageValue, an_edit, a_report, message_of}
use Rattle.words.proofs.MessageSpelling.{message_spelling}
use Rattle.account.specs.declared.decisions.Decision.{Decision}
use Rattle.account.specs.declared.decisions.Decision.TheVariants.{Commit}
use Rattle.account.specs.Account.{Account, Committed, a_commit, decide, added, next, opening, after_from, account_after, commits_of, last_version}
use Rattle.account.proofs.Steps.{after_append, commits_grow}
use Rattle.group.proofs.Nths.{nth_all}

module _ (n : ℕ) where
  after_one : (a : Account) (ms : List (List ℕ)) (d : ℕ) (ws : List ℕ) → slice_get ms d ≡ Some ws →
      after_from n a (take (suc d) ms) ≡ next (after_from n a (take d ms)) (message_of n ws)
  after_one a [] d ws e = cc
  after_one a (x ∷ ms) zero ws e = grind arith
  after_one a (x ∷ ms) (suc d) ws e = after_one (next a (message_of n x)) ms d ws e

  pub account_next : (ms : List (List ℕ)) (d : ℕ) (ws : List ℕ) (o : Option MessageValue) (a : Account) → slice_get ms d ≡ Some ws → message_of n ws ≡ o →
      account_after n (take d ms) ≡ a → account_after n (take (d + 1) ms) ≡ next a o
  account_next ms d ws o a there read e =
      ap (λ k. account_after n (take k ms)) (add-one d) ∙ after_one (opening n) ms d ws there ∙ ap (λ b. next b (message_of n ws)) e ∙ ap (next a) read

  -- the commits of a front are the first of the commits
  pub commits_front : (ms : List (List ℕ)) (d : ℕ) → (rest : List Committed) × (commits_of n ms ≡ (account_after n (take d ms)).commits ++ rest)
  commits_front ms d =
      let g = commits_grow n (account_after n (take d ms)) (drop d ms) in (
        g.0,
        ap (λ l. commits_of n l) (sym (take-append-drop d ms))
            ∙ ap (λ a. a.commits) (after_append n (opening n) (take d ms) (drop d ms)) ∙ g.1,
      )

  -- a place adds at most one commit
  few_from : (a : Account) (ms : List (List ℕ)) → last_version (after_from n a ms) ≤ last_version a + length ms
  few_from a [] = omega arith
  few_from a (x ∷ ms) =
      let m = message_of n x in
      let rest = few_from (next a m) ms in
      grind (arith, length-append {A = Committed})

  pub last_within : (ms : List (List ℕ)) (d : ℕ) → last_version (account_after n (take d ms)) ≤ d
  last_within ms d = omega (arith, few_from (opening n) (take d ms), length-take d ms)

  -- every commit is that of a valid edit
  abbrev pub well_made : Committed → Bool
  well_made c = ltb c.home n && (in_range 1 c.ticket && valid_writes c.writes)

  abbrev IsWellMade : Committed → Type 0
  IsWellMade c = well_made c ≡ true

  abbrev WellMade : List Committed → Type 0
  WellMade cs = All IsWellMade cs

  added_well_made : (d : Decision) (o : Option MessageValue) (ws : List ℕ) → message_of n ws ≡ o → WellMade (added d o)
  added_well_made d None ws e = All-nil IsWellMade
  added_well_made d (Some (a_report i r)) ws e = All-nil IsWellMade
  added_well_made (Commit v) (Some (an_edit h t s l)) ws e =
      let valid = ((message_spelling n ws (an_edit h t s l)).0 e).1 in
      All-cons IsWellMade (a_commit h t l) [] (grind (arith, nat_tests)) (All-nil IsWellMade)
  added_well_made d (Some (an_edit h t s l)) ws e = All-nil IsWellMade

  well_made_from : (a : Account) (ms : List (List ℕ)) → WellMade a.commits → WellMade (after_from n a ms).commits
  well_made_from a [] w = w
  well_made_from a (x ∷ ms) w =
      let m = message_of n x in
      well_made_from (next a m) ms (All-append IsWellMade a.commits (added (decide a m) m) w (added_well_made (decide a m) m x refl))

  pub commit_well_made : (ms : List (List ℕ)) (k : ℕ) (c : Committed) → slice_get (commits_of n ms) k ≡ Some c → well_made c ≡ true
  commit_well_made ms k c e = nth_all IsWellMade (commits_of n ms) k c (well_made_from (opening n) ms (All-nil IsWellMade)) e
