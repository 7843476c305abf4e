-- Known cases: messages and pages with their words, and a list of nine messages with its decisions.
use Rattle.std.specs.Prelude.{◌≡◌, ℕ, List, [], ◌∷◌, take, ℤ, pos, negsuc, Some}
use Rattle.std.specs.List.{slice_get}
use Rattle.words.specs.declared.changes.Change.TheVariants.{Set, Remove}
use Rattle.words.specs.Writes.{a_write, change_of, change_word}
use Rattle.words.specs.Messages.{MessageValue, an_edit, a_report, message_words, message_of}
use Rattle.words.specs.Pages.{PageValue, a_closing, page_words, page_of}
use Rattle.account.specs.declared.decisions.Decision.{Decision}
use Rattle.account.specs.declared.decisions.Decision.TheVariants.{Noted, Ahead, TooOld, Conflict, Commit}
use Rattle.account.specs.Account.{decisions, account_after, horizon}

-- A case: a message or a page of a group of n sites with its words, a value with its word,
-- a place (from 0) of the list of nine with its decision, or the horizon after so many of its places.
pub data Case : Type 0 where
  message : ℕ → MessageValue → List ℕ → Case
  page : ℕ → PageValue → List ℕ → Case
  value : ℤ → ℕ → Case
  place : ℕ → MessageValue → Decision → Case
  horizon_after : ℕ → ℕ → Case

abbrev pub negative_value_and_removal : Case
negative_value_and_removal =
    message 3 (an_edit 2 5 3 (a_write 7 (Set (negsuc 0)) ∷ (a_write 9 Remove ∷ [])))
    (0x12000002 ∷ (0x30000005 ∷ (0x40000003 ∷ (0x50000007 ∷ (0x6FFFFFFF ∷ (0x50000009 ∷ (0x70000000 ∷ [])))))))

abbrev pub report_of_four : Case
report_of_four = message 2 (a_report 1 4) (0x21000000 ∷ (0x40000004 ∷ []))

abbrev pub least_value : Case
least_value = value (negsuc 134217727) 0x68000000

abbrev pub greatest_value : Case
greatest_value = value (pos 134217727) 0x67FFFFFF

abbrev pub closing_page_of_three : Case
closing_page_of_three =
    page 3 (a_closing 4 6 (2 ∷ (4 ∷ (3 ∷ []))))
    (0x90000003 ∷ (0x40000004 ∷ (0xA0000006 ∷ (0xB0000002 ∷ (0xB0000004 ∷ (0xB0000003 ∷ []))))))

-- The nine messages of a group of two sites, place by place.
abbrev pub first_write_commits : Case
first_write_commits = place 0 (an_edit 0 1 0 (a_write 1 (Set (pos 10)) ∷ [])) (Commit 1)

abbrev pub same_item_conflicts : Case
same_item_conflicts = place 1 (an_edit 1 1 0 (a_write 1 (Set (pos 20)) ∷ [])) (Conflict 1)

abbrev pub other_item_commits : Case
other_item_commits = place 2 (an_edit 1 2 0 (a_write 2 (Set (pos 5)) ∷ [])) (Commit 2)

abbrev pub report_is_noted : Case
report_is_noted = place 3 (a_report 0 2) Noted

abbrev pub report_beyond_last_counts_as_last : Case
report_beyond_last_counts_as_last = place 4 (a_report 1 9) Noted

abbrev pub snapshot_below_horizon_is_too_old : Case
snapshot_below_horizon_is_too_old = place 5 (an_edit 0 2 1 (a_write 3 (Set (pos 1)) ∷ [])) TooOld

abbrev pub snapshot_above_last_is_ahead : Case
snapshot_above_last_is_ahead = place 6 (an_edit 0 3 3 (a_write 3 (Set (pos 1)) ∷ [])) Ahead

abbrev pub removal_commits : Case
removal_commits = place 7 (an_edit 0 4 2 (a_write 1 Remove ∷ [])) (Commit 3)

abbrev pub same_words_again_conflict : Case
same_words_again_conflict = place 8 (an_edit 0 4 2 (a_write 1 Remove ∷ [])) (Conflict 3)

abbrev pub both_reports_raise_the_horizon : Case
both_reports_raise_the_horizon = horizon_after 5 2

-- The table of known cases.
abbrev pub table : List Case
table =
    negative_value_and_removal ∷ (report_of_four ∷ (least_value ∷ (greatest_value ∷ (closing_page_of_three
    ∷ (first_write_commits ∷ (same_item_conflicts ∷ (other_item_commits ∷ (report_is_noted ∷ (report_beyond_last_counts_as_last
    ∷ (both_reports_raise_the_horizon ∷ (snapshot_below_horizon_is_too_old ∷ (snapshot_above_last_is_ahead ∷ (removal_commits
    ∷ (same_words_again_conflict ∷ []))))))))))))))

-- The words of the places of a table, in its order: those of this table are the list of nine.
abbrev pub words_in : List Case → List (List ℕ)
words_in [] = []
words_in (message n m ws ∷ cs) = words_in cs
words_in (page n p ws ∷ cs) = words_in cs
words_in (value z w ∷ cs) = words_in cs
words_in (place k m d ∷ cs) = message_words m ∷ words_in cs
words_in (horizon_after k h ∷ cs) = words_in cs

abbrev pub nine : List (List ℕ)
nine = words_in table

-- Words both ways, decisions by place, and the horizon after so many places.
abbrev pub Holds : Case → Type 0
Holds (message n m ws) = (message_words m ≡ ws) × (message_of n ws ≡ Some m)
Holds (page n p ws) = (page_words p ≡ ws) × (page_of n ws ≡ Some p)
Holds (value z w) = (change_word (Set z) ≡ w) × (change_of w ≡ Some (Set z))
Holds (place k m d) = (slice_get nine k ≡ Some (message_words m)) × (slice_get (decisions 2 nine) k ≡ Some d)
Holds (horizon_after k h) = horizon (account_after 2 (take k nine)) ≡ h

abbrev pub AllHold : List Case → Type 0
AllHold [] = Unit {0}
AllHold (c ∷ cs) = Holds c × AllHold cs

abbrev pub KnownCases : Type 0
KnownCases = AllHold table
