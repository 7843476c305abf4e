-- A lawful run of three sites, its calls and its answers written out in the order of time.
use Rattle.std.specs.Prelude.{◌≡◌, ℕ, List, [], ◌∷◌, ◌++◌, map, length, pos, Some, None}
use Rattle.words.specs.declared.changes.Change.TheVariants.{Set, Remove}
use Rattle.words.specs.declared.changes.Write.{Write}
use Rattle.words.specs.Writes.{a_write}
use Rattle.words.specs.Messages.{an_edit, a_report, message_words}
use Rattle.words.specs.Pages.{an_entry, a_closing, page_words}
use Rattle.account.specs.declared.decisions.Decision.TheVariants.{Void, Noted, Ahead, TooOld, Conflict, Commit}
use Rattle.site.specs.declared.handles.Handle.{Handle}
use Rattle.site.specs.declared.modes.Mode.TheVariants.{Whole}
use Rattle.site.specs.Handles.{a_handle}
use Rattle.site.specs.Calls.{Begin, Read, Look, Put, Post, GiveUp, Outcome, LetGo, Deliver, Step, Report, Page, Take, Trim, Prune, Crash, Wake, Declined, Drafted, Value, Done, ReadOnly, Sent, Pending, Told, Opened, Staged, Sealed, Idle, Wrote, Woken, called}
use Rattle.group.specs.Record.{Turn, a_turn}
use Rattle.group.specs.Runs.{Run}
use Rattle.refuted.specs.Plays.{Kit, a_kit, Move, at, opening, played}

-- Logs by entries alone, by entries and writes, and by writes alone.
abbrev pub kits : List Kit
kits = a_kit 8 8 1 0 ∷ (a_kit 8 40 3 2 ∷ (a_kit 16 9 0 1 ∷ []))

-- The drafts, by site, slot and ticket.
abbrev pub ann : Handle
ann = a_handle 0 0 1

abbrev pub bob : Handle
bob = a_handle 1 0 1

abbrev pub cat : Handle
cat = a_handle 2 0 1

abbrev pub dan : Handle
dan = a_handle 0 0 2

abbrev pub eve : Handle
eve = a_handle 1 0 2

-- Their writes and words.
abbrev pub set_to : ℕ → ℕ → Write
set_to x z = a_write x (Set (pos z))

abbrev pub ann_writes : List Write
ann_writes = set_to 1 10 ∷ []

abbrev pub eve_writes : List Write
eve_writes = set_to 1 30 ∷ (a_write 2 Remove ∷ [])

abbrev pub ann_words : List ℕ
ann_words = message_words (an_edit 0 1 0 ann_writes)

abbrev pub bob_words : List ℕ
bob_words = message_words (an_edit 1 1 0 (set_to 1 20 ∷ (set_to 2 5 ∷ [])))

abbrev pub cat_words : List ℕ
cat_words = message_words (an_edit 2 1 0 (set_to 3 7 ∷ []))

abbrev pub eve_words : List ℕ
eve_words = message_words (an_edit 1 2 1 eve_writes)

-- Words that nobody posted: an edit of snapshot 9, where there is no such version.
abbrev pub early_words : List ℕ
early_words = message_words (an_edit 0 7 9 ann_writes)

abbrev pub report : ℕ → ℕ → List ℕ
report i v = message_words (a_report i v)

-- The list of messages.
abbrev pub messages : List (List ℕ)
messages = ann_words ∷ (bob_words ∷ (eve_words ∷ (report 0 1 ∷ (report 1 1 ∷ (report 2 2 ∷ (cat_words ∷ ([] ∷ (early_words ∷ []))))))))

-- The pages.
abbrev pub first_page : List ℕ
first_page = page_words (an_entry 0 1 1 ann_writes)

abbrev pub second_page : List ℕ
second_page = page_words (an_entry 1 2 2 eve_writes)

abbrev pub closing_page : List ℕ
closing_page = page_words (a_closing 2 5 (1 ∷ (1 ∷ (0 ∷ []))))

-- Three drafts, each of which reads its own writes.
abbrev pub drafts_begin : List Turn
drafts_begin =
    a_turn 0 Begin (Drafted ann) ∷
    a_turn 0 (Put ann (set_to 1 10)) Done ∷
    a_turn 0 (Read ann 1) (Value (Some (pos 10))) ∷
    a_turn 0 (Read ann 2) (Value None) ∷
    a_turn 1 Begin (Drafted bob) ∷
    a_turn 1 (Put bob (set_to 2 5)) Done ∷
    a_turn 1 (Put bob (set_to 1 20)) Done ∷
    a_turn 2 Begin (Drafted cat) ∷
    a_turn 2 (Put cat (set_to 3 7)) Done ∷ []

-- All three are posted, one of them first into a buffer that is too short.
abbrev pub edits_are_posted : List Turn
edits_are_posted =
    a_turn 0 (Post ann 16) (Sent ann ann_words) ∷
    a_turn 1 (Post bob 4) (Declined 10) ∷
    a_turn 1 (Post bob 16) (Sent bob bob_words) ∷
    a_turn 2 (Post cat 16) (Sent cat cat_words) ∷
    a_turn 0 (Outcome ann) Pending ∷ []

-- The first commits, and the second is in conflict with it.
abbrev pub two_are_decided : List Turn
two_are_decided =
    a_turn 0 (Deliver 1 ann_words) (Told (Commit 1)) ∷
    a_turn 0 (Outcome ann) (Told (Commit 1)) ∷
    a_turn 0 (Outcome ann) (Declined 6) ∷
    a_turn 1 (Deliver 2 bob_words) (Declined 12) ∷
    a_turn 1 (Deliver 1 ann_words) (Told (Commit 1)) ∷
    a_turn 1 (Deliver 2 bob_words) (Told (Conflict 1)) ∷
    a_turn 0 (Deliver 2 bob_words) (Told (Conflict 1)) ∷
    a_turn 1 (Outcome bob) (Told (Conflict 1)) ∷ []

-- Site 0 crashes in the middle of a change, wakes, and makes it whole.
abbrev pub a_change_is_broken_off : List Turn
a_change_is_broken_off =
    a_turn 0 Step Opened ∷
    a_turn 0 Step Staged ∷
    a_turn 0 Crash Done ∷
    a_turn 0 (Look 1) (Declined 1) ∷
    a_turn 0 Wake (Woken Whole) ∷
    a_turn 0 (Look 1) (Value None) ∷
    a_turn 0 Step Opened ∷
    a_turn 0 Step Staged ∷
    a_turn 0 Step Sealed ∷
    a_turn 0 Step Idle ∷
    a_turn 0 (Look 1) (Value (Some (pos 10))) ∷ []

-- A draft begins at version 1, and an edit of another site makes version 2.
abbrev pub another_edit_commits : List Turn
another_edit_commits =
    a_turn 0 Begin (Drafted dan) ∷
    a_turn 1 Step Opened ∷
    a_turn 1 Step Staged ∷
    a_turn 1 Step Sealed ∷
    a_turn 1 Begin (Drafted eve) ∷
    a_turn 1 (Put eve (set_to 1 30)) Done ∷
    a_turn 1 (Put eve (a_write 2 Remove)) Done ∷
    a_turn 1 (Read eve 1) (Value (Some (pos 30))) ∷
    a_turn 1 (Post eve 16) (Sent eve eve_words) ∷
    a_turn 0 (Deliver 3 eve_words) (Told (Commit 2)) ∷
    a_turn 1 (Deliver 3 eve_words) (Told (Commit 2)) ∷ []

-- The draft reads version 1 on, while version 2 is sealed beside it; pruning keeps what it reads.
abbrev pub a_draft_reads_on : List Turn
a_draft_reads_on =
    a_turn 0 Step Opened ∷
    a_turn 0 Step Staged ∷
    a_turn 0 (Put dan (set_to 3 1)) (Declined 7) ∷
    a_turn 0 Step Staged ∷
    a_turn 0 Step Sealed ∷
    a_turn 0 (Look 1) (Value (Some (pos 30))) ∷
    a_turn 0 (Read dan 1) (Value (Some (pos 10))) ∷
    a_turn 0 Prune Done ∷
    a_turn 0 (Read dan 1) (Value (Some (pos 10))) ∷ []

-- Two sites report which version they still read.
abbrev pub two_sites_report : List Turn
two_sites_report =
    a_turn 0 (Report 16) (Wrote (report 0 1)) ∷
    a_turn 1 (Report 16) (Wrote (report 1 1)) ∷
    a_turn 0 (Deliver 4 (report 0 1)) (Told Noted) ∷
    a_turn 0 (Deliver 5 (report 1 1)) (Told Noted) ∷ []

-- Site 2 loses its slots, and takes two entry pages and a closing page.
abbrev pub a_site_catches_up : List Turn
a_site_catches_up =
    a_turn 2 Crash Done ∷
    a_turn 2 Wake (Woken Whole) ∷
    a_turn 1 (Page 0 16) (Wrote first_page) ∷
    a_turn 2 (Take first_page) Done ∷
    a_turn 2 Begin (Declined 2) ∷
    a_turn 0 (Page 1 16) (Wrote second_page) ∷
    a_turn 2 (Take second_page) Done ∷
    a_turn 2 (Take second_page) (Declined 17) ∷
    a_turn 0 (Page 2 16) (Wrote closing_page) ∷
    a_turn 2 (Take closing_page) Done ∷
    a_turn 2 Step Opened ∷
    a_turn 2 Step Staged ∷
    a_turn 2 Step Sealed ∷
    a_turn 2 Step Opened ∷
    a_turn 2 Step Staged ∷
    a_turn 2 Step Staged ∷
    a_turn 2 Step Sealed ∷
    a_turn 2 (Look 1) (Value (Some (pos 30))) ∷
    a_turn 2 (Report 16) (Wrote (report 2 2)) ∷ []

-- With its report version 0 is read no more: the log is trimmed, and the edit that site 2 lost is too old.
abbrev pub the_horizon_rises : List Turn
the_horizon_rises =
    a_turn 0 (Deliver 6 (report 2 2)) (Told Noted) ∷
    a_turn 2 (Deliver 6 (report 2 2)) (Told Noted) ∷
    a_turn 0 Trim Done ∷
    a_turn 0 (Page 0 16) (Declined 19) ∷
    a_turn 0 (Deliver 7 cat_words) (Told TooOld) ∷
    a_turn 2 (Deliver 7 cat_words) (Told TooOld) ∷
    a_turn 2 (Deliver 8 []) (Told Void) ∷
    a_turn 2 (Deliver 9 early_words) (Told Ahead) ∷ []

-- A draft that wrote nothing, one that is given up, and an outcome that nobody waits for.
abbrev pub drafts_end : List Turn
drafts_end =
    a_turn 0 (Post dan 16) ReadOnly ∷
    a_turn 2 Begin (Drafted (a_handle 2 0 2)) ∷
    a_turn 2 (GiveUp (a_handle 2 0 2)) Done ∷
    a_turn 1 (LetGo eve) Done ∷
    a_turn 1 (Outcome eve) (Declined 6) ∷
    a_turn 0 Prune Done ∷
    a_turn 0 (Look 1) (Value (Some (pos 30))) ∷ []

-- All calls and answers, 91 of them.
abbrev pub story : List Turn
story =
    drafts_begin ++ edits_are_posted ++ two_are_decided ++ a_change_is_broken_off ++ another_edit_commits ++
    a_draft_reads_on ++ two_sites_report ++ a_site_catches_up ++ the_horizon_rises ++ drafts_end

-- The calls of a story, and its turns with the latest first.
abbrev pub as_move : Turn → Move
as_move t = at t.site t.call

abbrev pub latest_first : List Turn → List Turn → List Turn
latest_first [] after = after
latest_first (t ∷ ts) after = latest_first ts (t ∷ after)

-- Sites fresh from these kits that are called so answer so, and this is a run over the list of messages.
pub record Happens (ks : List Kit) (ms : List (List ℕ)) (ts : List Turn) : Type 0 where
  pub answered : (played called (opening ks) (map as_move ts)).turns ≡ latest_first ts []
  pub run : Run called (length ks) ms (played called (opening ks) (map as_move ts)).sites (latest_first ts [])

abbrev pub LawfulRun : Type 0
LawfulRun = Happens kits messages story
