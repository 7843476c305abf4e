-- A play whose turns pass the test of what is supposed is a run.
use Rattle.std.proofs.Common.{◌≡◌, ℕ, true, List, [], ◌∷◌, length, Some, None, Option, sym, refl, ap, ◌∙◌, ⊎_elim, arith}
use Rattle.std.specs.List.{slice_get, Contains}
use Rattle.std.proofs.lemmas.Bool.{and_parts, or_cases}
use Rattle.std.proofs.lemmas.Slice.Eq.{bytes_eq-Decides}
use Rattle.std.proofs.lemmas.List.Elements.{Contains-append_right}
use Rattle.site.specs.SiteModel.{SiteModel}
use Rattle.site.specs.Calls.{Call, Page, Answer, Wrote}
use Rattle.group.specs.Record.{Turn, a_turn}
use Rattle.group.specs.Law.{at_place}
use Rattle.group.specs.Runs.{Acting, Supposed, Run, starts, goes}
use Rattle.refuted.specs.Plays.{Kit, Move, Stage, are_kits, opening, moved_in, moved, played, are_words, wrote_words, wrote_page, was_written, supposed, all_supposed}
use Rattle.refuted.proofs.Kits.{kits_fresh}

words_there : (o : Option (List ℕ)) (ws : List ℕ) → are_words o ws ≡ true → o ≡ Some ws
words_there (Some us) ws e = ap Some ((bytes_eq-Decides us ws).0 e)
words_there None ws e = cc

words_written : (ws : List ℕ) (a : Answer) → wrote_words ws a ≡ true → a ≡ Wrote ws
words_written ws (Wrote us) e = ap Wrote ((bytes_eq-Decides us ws).0 e)
words_written ws _ e = cc

-- A turn that wrote a page of these words.
abbrev PageWritten : List ℕ → Turn → Type 0
PageWritten ws t = (i v room : ℕ) × (t ≡ a_turn i (Page v room) (Wrote ws))

page_written : (ws : List ℕ) (i : ℕ) (c : Call) (a : Answer) → wrote_page ws a c ≡ true → PageWritten ws (a_turn i c a)
page_written ws i (Page v room) a e = (i, v, room, ap (a_turn i (Page v room)) (words_written ws a e))
page_written ws i _ a e = cc

-- Such a turn stands in the record.
abbrev Written : List ℕ → List Turn → Type 0
Written ws ts = (i v room : ℕ) × Contains ts (a_turn i (Page v room) (Wrote ws))

written_now : (ws : List ℕ) (t : Turn) (ts : List Turn) → PageWritten ws t → Written ws (t ∷ ts)
written_now ws t ts p = (p.0, p.1, p.2, (0, omega arith, p.3))

written_before : (ws : List ℕ) (t : Turn) (ts : List Turn) → Written ws ts → Written ws (t ∷ ts)
written_before ws t ts p = (p.0, p.1, p.2, Contains-append_right (t ∷ []) ts _ p.3)

written : (ws : List ℕ) (ts : List Turn) → was_written ws ts ≡ true → Written ws ts
written ws [] e = cc
written ws (t ∷ ts) e =
    ⊎_elim (λ h. written_now ws t ts (page_written ws t.site t.call t.answer h)) (λ h. written_before ws t ts (written ws ts h))
    (or_cases (wrote_page ws t.answer t.call) (was_written ws ts) e)

-- the test of a turn says what is supposed of it
turn_supposed : (ms : List (List ℕ)) (ts : List Turn) (i : ℕ) (c : Call) (a : Answer) → supposed ms ts c ≡ true → Supposed ms ts (a_turn i c a)
turn_supposed ms ts i c a e = record {
  delivers = λ p ws d q _. words_there (at_place ms p) ws (sym (ap (supposed ms ts) q) ∙ e);
  takes = λ ws q _. written ws ts (sym (ap (supposed ms ts) q) ∙ e);
}

module _ (act : Acting) (n : ℕ) (ms : List (List ℕ)) where
  -- what a move leaves passes the test only if what it found does
  before_in : (s : Stage) (i : ℕ) (c : Call) (o : Option SiteModel) → all_supposed ms (moved_in act s i c o).turns ≡ true → all_supposed ms s.turns ≡ true
  before_in s i c None e = e
  before_in s i c (Some m) e = (and_parts (supposed ms s.turns c) (all_supposed ms s.turns) e).1

  before : (s : Stage) (x : Move) → all_supposed ms (moved act s x).turns ≡ true → all_supposed ms s.turns ≡ true
  before s x e = before_in s x.site x.call (slice_get s.sites x.site) e

  began : (xs : List Move) (s : Stage) → all_supposed ms (played act s xs).turns ≡ true → all_supposed ms s.turns ≡ true
  began [] s e = e
  began (x ∷ xs) s e = before s x (began xs (moved act s x) e)

  -- a run goes on with a move
  move_in : (s : Stage) (i : ℕ) (c : Call) (o : Option SiteModel) → slice_get s.sites i ≡ o → Run act n ms s.sites s.turns →
      all_supposed ms (moved_in act s i c o).turns ≡ true → Run act n ms (moved_in act s i c o).sites (moved_in act s i c o).turns
  move_in s i c None at r e = r
  move_in s i c (Some m) at r e =
      goes i m c r at (turn_supposed ms s.turns i c (act m c).0 (and_parts (supposed ms s.turns c) (all_supposed ms s.turns) e).0)

  pub goes_on : (xs : List Move) (s : Stage) → Run act n ms s.sites s.turns → all_supposed ms (played act s xs).turns ≡ true →
      Run act n ms (played act s xs).sites (played act s xs).turns
  goes_on [] s r e = r
  goes_on (x ∷ xs) s r e =
      goes_on xs (moved act s x) (move_in s x.site x.call (slice_get s.sites x.site) refl r (began xs (moved act s x) e)) e

-- a play from fresh sites
pub play_runs : (act : Acting) (ms : List (List ℕ)) (ks : List Kit) (xs : List Move) → are_kits ks ≡ true →
    all_supposed ms (played act (opening ks) xs).turns ≡ true →
    Run act (length ks) ms (played act (opening ks) xs).sites (played act (opening ks) xs).turns
play_runs act ms ks xs k e = goes_on act (length ks) ms xs (opening ks) (starts (kits_fresh ks k)) e
