-- What each call answers and leaves: the table of refusals, and what is carried out where no line of it fits.
use Rattle.std.specs.Prelude.{◌≡◌, ℕ, ◌+◌, min, Bool, true, false, cond, not, ◌&&◌, ◌||◌, List, [], ◌∷◌, ◌++◌, map, length, take, drop, replicate, ℤ, is_some, Some, None, Ok, Err, Option, Result, ◌==◌, nat_le, nat_lt}
use Rattle.std.specs.List.{slice_get}
use Rattle.words.specs.declared.changes.Change.{Change}
use Rattle.words.specs.declared.changes.Change.TheVariants.{Set, Remove}
use Rattle.words.specs.declared.changes.Write.{Write}
use Rattle.words.specs.Writes.{write_fits}
use Rattle.words.specs.Messages.{MessageValue, a_report, message_words, message_of}
use Rattle.words.specs.Pages.{PageValue, page_words, page_of}
use Rattle.account.specs.declared.decisions.Decision.{Decision}
use Rattle.store.specs.StoreModel.{read_at, space, staged_on, sealed_up, dropped, pruned_to}
use Rattle.logs.specs.LogModel.{LogModel, Entry, last_version, entry_at, write_of, ticketed, trimmed}
use Rattle.site.specs.declared.handles.Handle.{Handle}
use Rattle.site.specs.declared.modes.Mode.{Mode}
use Rattle.site.specs.declared.modes.Mode.TheVariants.{Whole, Partial, Down}
use Rattle.site.specs.declared.refusals.Refusal.{Refusal}
use Rattle.site.specs.declared.site.changes.Stepped.{Stepped}
use Rattle.site.specs.declared.site.changes.Stepped.TheVariants as stepped-kind
use Rattle.site.specs.Modes.{refusal_number}
use Rattle.site.specs.declared.handles.Posted.{Posted}
use Rattle.site.specs.declared.handles.Draft.{Draft}
use Rattle.site.specs.declared.site.posts.Sent.{Sent as SentParts}
use Rattle.site.specs.declared.site.posts.Answered.{Answered}
use Rattle.site.specs.declared.site.posts.Answered.TheVariants as answered-kind
use Rattle.site.specs.Handles.{a_handle, draft_handle, posted_handle}
use Rattle.site.specs.Edits.{EditModel, an_edit_of, own_change, has_room, rewritten}
use Rattle.site.specs.Spelling.{own_words}
use Rattle.site.specs.Slots.{SlotModel, empty, opened, posted, lowest_empty, all_empty, open_edit, has_posted, held_decision, settled}
use Rattle.site.specs.Certify.{certified, log_after, declines}
use Rattle.site.specs.CatchUp.{page_at, follows, has_room_for, log_taken, mode_taken, fails}
use Rattle.site.specs.SiteModel.{SiteModel, with_store, with_log, with_mode, with_slots, with_slot, with_change, a_site, keep, horizon}

-- One line of the table: the number of a refusal, and whether it applies.
pub record Line : Type 0 where
  pub number : ℕ
  pub applies : Bool

abbrev pub on : ℕ → Bool → Line
on n b = record { number = n; applies = b }

-- The first line that applies, if any.
abbrev pub first : List Line → Option ℕ
first [] = None
first (l ∷ ls) = cond l.applies (Some l.number) (first ls)

-- The calls at a site. A call that writes words is given how many the buffer has room for.
pub data Call : Type 0 where
  Begin : Call
  Read : Handle → ℕ → Call
  Look : ℕ → Call
  Put : Handle → Write → Call
  Post : Handle → ℕ → Call
  GiveUp : Handle → Call
  Outcome : Handle → Call
  LetGo : Handle → Call
  Deliver : ℕ → List ℕ → Call
  Step : Call
  Report : ℕ → Call
  Page : ℕ → ℕ → Call
  Take : List ℕ → Call
  Trim : Call
  Prune : Call
  Crash : Call
  Wake : Call

pub data Answer : Type 0 where
  Declined : ℕ → Answer
  Drafted : Handle → Answer
  Value : Option ℤ → Answer
  Done : Answer
  ReadOnly : Answer
  Sent : Handle → List ℕ → Answer
  Pending : Answer
  Told : Decision → Answer
  Opened : Answer
  Staged : Answer
  Sealed : Answer
  Idle : Answer
  Wrote : List ℕ → Answer
  Woken : Mode → Answer

abbrev pub is_down : Mode → Bool
is_down Whole = false
is_down Partial = false
is_down Down = true

abbrev pub is_whole : Mode → Bool
is_whole Whole = true
is_whole Partial = false
is_whole Down = false

abbrev pub is_partial : Mode → Bool
is_partial Whole = false
is_partial Partial = true
is_partial Down = false

-- The writes of an entry, none where there is no entry.
abbrev pub writes_in : Option Entry → List Write
writes_in None = []
writes_in (Some e) = e.writes

-- The open edit of a draft, if the draft is of this site and its slot still holds it.
abbrev pub drafted : SiteModel → Handle → Option EditModel
drafted m h = cond (h.site == m.number) (open_edit m.slots h.slot h.ticket) None

-- Whether a handle is that of a posted edit which its slot still holds.
abbrev pub awaited : SiteModel → Handle → Bool
awaited m h = h.site == m.number && has_posted m.slots h.slot h.ticket

abbrev pub fits_edit : Option EditModel → Write → Bool
fits_edit None w = false
fits_edit (Some e) w = has_room e w

-- The words of an edit of this site; those of an edit that wrote nothing are none.
abbrev pub edit_words : SiteModel → EditModel → List ℕ
edit_words m e = own_words m.number e

abbrev pub edit_or : Option EditModel → EditModel
edit_or None = an_edit_of 0 0 []
edit_or (Some e) = e

-- The words of a report of keep.
abbrev pub report_words : SiteModel → List ℕ
report_words m = message_words (a_report m.number (keep m))

-- The writes of the next version, if the log has it.
abbrev pub upcoming : SiteModel → List Write
upcoming m = writes_in (entry_at m.log (m.store.version + 1))

-- Whether there is a version to open, and whether its writes are more than the store has space for.
abbrev pub is_behind : SiteModel → Bool
is_behind m = nat_lt m.store.version (last_version m.log)

abbrev pub lacks_space : SiteModel → Bool
lacks_space m = not (is_some m.change) && (is_behind m && nat_lt (space m.store) (length (upcoming m)))

-- Whether a place is above the next one, or above the last that there is.
abbrev pub is_beyond : ℕ → ℕ → Bool
is_beyond last place = nat_lt (last + 1) place || nat_lt 268435455 place

-- The lines of the table that are about the place alone.
abbrev pub placing : ℕ → ℕ → List Line
placing last place = on 11 (nat_le place last) ∷ (on 12 (is_beyond last place) ∷ [])

-- The table of refusals, in the order in which they are given.
abbrev pub table : SiteModel → Call → List Line
table m Begin =
    on 1 (is_down m.mode) ∷ (on 2 (is_partial m.mode) ∷ (on 4 (not (is_some (lowest_empty m.slots))) ∷ (on 5 (nat_le 268435455 m.log.tickets) ∷ [])))
table m (Read h x) = on 1 (is_down m.mode) ∷ (on 6 (not (is_some (drafted m h))) ∷ (on 8 (nat_lt 268435455 x) ∷ []))
table m (Look x) = on 1 (is_down m.mode) ∷ (on 8 (nat_lt 268435455 x) ∷ [])
table m (Put h w) =
    on 1 (is_down m.mode) ∷ (on 6 (not (is_some (drafted m h))) ∷ (on 7 (is_some m.change) ∷ (on 8 (not (write_fits 0 w)) ∷ (on 9 (not (fits_edit (drafted m h) w)) ∷ []))))
table m (Post h room) =
    on 1 (is_down m.mode) ∷ (on 6 (not (is_some (drafted m h))) ∷ (on 10 (nat_lt room (length (edit_words m (edit_or (drafted m h))))) ∷ []))
table m (GiveUp h) = []
table m (Outcome h) = on 1 (is_down m.mode) ∷ (on 6 (not (awaited m h)) ∷ [])
table m (Deliver place ws) =
    on 1 (is_down m.mode) ∷ (on 2 (is_partial m.mode) ∷ (on 11 (nat_le place m.log.place) ∷ (on 12 (is_beyond m.log.place place)
    ∷ (on 13 (declines m.log (message_of m.sites ws)) ∷ []))))
table m Step = on 1 (is_down m.mode) ∷ (on 14 (lacks_space m) ∷ [])
table m (Report room) = on 1 (is_down m.mode) ∷ (on 10 (nat_lt room (length (report_words m))) ∷ [])
table m (LetGo h) = []
table m (Page v room) =
    on 1 (is_down m.mode) ∷ (on 2 (is_partial m.mode) ∷ (on 18 (nat_lt (last_version m.log) v) ∷ (on 19 (nat_lt v m.log.floor)
    ∷ (on 10 (nat_lt room (length (page_words (page_at m.log v)))) ∷ []))))
table m (Take ws) =
    on 1 (is_down m.mode) ∷ (on 15 (not (all_empty m.slots)) ∷ (on 16 (not (is_some (page_of m.sites ws)))
    ∷ (on 17 (fails (follows m.log) (page_of m.sites ws)) ∷ (on 13 (fails (has_room_for m.log) (page_of m.sites ws)) ∷ []))))
table m Trim = on 1 (is_down m.mode) ∷ []
table m Prune = on 1 (is_down m.mode) ∷ []
table m Crash = on 1 (is_down m.mode) ∷ []
table m Wake = on 3 (not (is_down m.mode)) ∷ []

-- The value that a change leaves.
abbrev pub value_of : Change → Option ℤ
value_of (Set z) = Some z
value_of Remove = None

abbrev pub own_or : Option Change → Option ℤ → Option ℤ
own_or None stored = stored
own_or (Some x) stored = value_of x

abbrev pub or_zero : Option ℕ → ℕ
or_zero None = 0
or_zero (Some i) = i

abbrev pub marked : Bool → Mode
marked b = cond b Whole Partial

-- Post: an edit with no writes is read only, and any other is posted as its words.
abbrev pub sent : SiteModel → Handle → EditModel → Answer
sent m h e = cond (length e.writes == 0) ReadOnly (Sent h (edit_words m e))

abbrev pub slot_sent : EditModel → SlotModel
slot_sent e = cond (length e.writes == 0) empty (posted e)

-- Outcome: the decision and an empty slot, or pending.
abbrev pub outcome_of : Option Decision → Answer
outcome_of None = Pending
outcome_of (Some d) = Told d

abbrev pub after_outcome : SiteModel → Handle → Option Decision → SiteModel
after_outcome m h None = m
after_outcome m h (Some d) = with_slot m h.slot empty

-- Take: a page goes into the log, and says whether the site is whole.
abbrev pub after_page : SiteModel → Option PageValue → SiteModel
after_page m None = m
after_page m (Some p) = with_mode (with_log m (log_taken m.log p)) (mode_taken p)

-- Step: with no change under way the next version is opened, or there is none; then its writes are staged one by one, and
-- the step after the last one seals.
abbrev pub stepped_in : SiteModel → ℕ → Option Write → Answer × SiteModel
stepped_in m k None = (Sealed, with_change (with_store m (sealed_up m.store)) None)
stepped_in m k (Some w) = (Staged, with_change (with_store m (staged_on m.store w)) (Some (k + 1)))

abbrev pub stepped : SiteModel → Option ℕ → Answer × SiteModel
stepped m None = cond (is_behind m) (Opened, with_change m (Some 0)) (Idle, m)
stepped m (Some k) = stepped_in m k (write_of (entry_at m.log (m.store.version + 1)) k)

-- Opening, with the refusal for lack of space.
abbrev pub opening : SiteModel → Answer × SiteModel
opening m =
    cond (is_behind m) (cond (nat_lt (space m.store) (length (upcoming m))) (Declined 14, m) (Opened, with_change m (Some 0))) (Idle, m)

-- What a call that is carried out answers, and what it leaves.
abbrev pub answered : SiteModel → Call → Answer
answered m Begin = Drafted (a_handle m.number (or_zero (lowest_empty m.slots)) (m.log.tickets + 1))
answered m (Read h x) = Value (own_or (own_change (edit_or (drafted m h)).writes x) (read_at m.store x (edit_or (drafted m h)).snapshot))
answered m (Look x) = Value (read_at m.store x m.store.version)
answered m (Put h w) = Done
answered m (Post h room) = sent m h (edit_or (drafted m h))
answered m (GiveUp h) = Done
answered m (Outcome h) = outcome_of (held_decision (slice_get m.slots h.slot))
answered m (Deliver place ws) = Told (certified m.log (message_of m.sites ws))
answered m Step = (stepped m m.change).0
answered m (Report room) = Wrote (report_words m)
answered m (LetGo h) = Done
answered m (Page v room) = Wrote (page_words (page_at m.log v))
answered m (Take ws) = Done
answered m Trim = Done
answered m Prune = Done
answered m Crash = Done
answered m Wake = Woken (marked m.log.whole)

abbrev pub left : SiteModel → Call → SiteModel
left m Begin = with_slot (with_log m (ticketed m.log)) (or_zero (lowest_empty m.slots)) (opened (an_edit_of (m.log.tickets + 1) m.store.version []))
left m (Read h x) = m
left m (Look x) = m
left m (Put h w) = with_slot m h.slot (opened (rewritten (edit_or (drafted m h)) w))
left m (Post h room) = with_slot m h.slot (slot_sent (edit_or (drafted m h)))
left m (Outcome h) = after_outcome m h (held_decision (slice_get m.slots h.slot))
left m (Deliver place ws) =
    with_slots (with_log m (log_after m.log (message_of m.sites ws))) (map (settled m.number ws (certified m.log (message_of m.sites ws))) m.slots)
left m Step = (stepped m m.change).1
left m (Report room) = m
left m (GiveUp h) = cond (is_some (drafted m h)) (with_slot m h.slot empty) m
left m (LetGo h) = cond (awaited m h) (with_slot m h.slot empty) m
left m (Page v room) = m
left m (Take ws) = after_page m (page_of m.sites ws)
left m Trim = with_log m (trimmed m.log (min (horizon m) m.store.version))
left m Prune = with_store m (pruned_to (keep m) m.store)
left m Crash = a_site m.number m.sites (dropped m.store) m.log Down (replicate 8 empty) None
left m Wake = with_mode m (marked m.log.whole)

-- A call: declined by the first line of its table that applies, with all as it was, or carried out.
abbrev pub by_table : Option ℕ → SiteModel → Call → Answer × SiteModel
by_table (Some n) m c = (Declined n, m)
by_table None m c = (answered m c, left m c)

abbrev pub called : SiteModel → Call → Answer × SiteModel
called m c = by_table (first (table m c)) m c

-- Answers of the calls, each by its numbers and values.
abbrev pub told : {A : Type 0} → (A → Answer) → Result A Refusal → Answer
told f (Ok a) = f a
told f (Err e) = Declined (refusal_number e)

-- Why a check turned a call down, if it did.
abbrev pub turned : {A : Type 0} → Result A Refusal → Option ℕ
turned (Ok a) = None
turned (Err e) = Some (refusal_number e)

-- A message, or words that are none, as the log decides and keeps it.
abbrev pub entered : LogModel → Option MessageValue → Answer × LogModel
entered m x = cond (declines m x) (Declined 13, m) (Told (certified m x), log_after m x)

abbrev pub step_answer : Stepped → Answer
step_answer stepped-kind.Opened = Opened
step_answer stepped-kind.Staged = Staged
step_answer stepped-kind.Sealed = Sealed
step_answer stepped-kind.Idle = Idle

-- Outcome: pending gives the posted edit back, and so does a refusal.
abbrev pub given_back : Bool → Answer → Answer
given_back true a = a
given_back false a = Done

abbrev pub same_handle : Handle → Handle → Bool
same_handle a b = a.site == b.site && (a.slot == b.slot && a.ticket == b.ticket)

abbrev pub outcome_told : Handle → Result Answered (Refusal × Posted) → Answer
outcome_told h (Ok (answered-kind.Pending p)) = given_back (same_handle (posted_handle p) h) Pending
outcome_told h (Ok (answered-kind.Decided d)) = Told d
outcome_told h (Err e) = given_back (same_handle (posted_handle e.1) h) (Declined (refusal_number e.0))

abbrev pub PostedBack : Posted → Result Answered (Refusal × Posted) → Type 0
PostedBack p (Ok (answered-kind.Pending q)) = q ≡ p
PostedBack p (Ok (answered-kind.Decided d)) = Unit {0}
PostedBack p (Err e) = e.1 ≡ p

-- Post: the words are those that stand at the buffer's front afterwards; a refusal gives the draft back.
abbrev pub posting : Handle → List ℕ → Result (Option SentParts) (Refusal × Draft) → Answer
posting h out (Ok None) = ReadOnly
posting h out (Ok (Some s)) = Sent (posted_handle s.posted) (take s.count out)
posting h out (Err e) = given_back (same_handle (draft_handle e.1) h) (Declined (refusal_number e.0))

-- The same of a draft's handle, by how many words were written, if any were to be.
abbrev pub sending : Handle → List ℕ → Option ℕ → Answer
sending h out None = ReadOnly
sending h out (Some n) = Sent h (take n out)

abbrev pub DraftBack : Draft → Result (Option SentParts) (Refusal × Draft) → Type 0
DraftBack d (Ok s) = Unit {0}
DraftBack d (Err e) = e.1 ≡ d

-- Report: the words are those that stand at the buffer's front afterwards.
abbrev pub reporting : List ℕ → Result ℕ Refusal → Answer
reporting out (Ok n) = Wrote (take n out)
reporting out (Err e) = Declined (refusal_number e)

-- The buffer after a call: words that were written stand at its front, and the rest is left.
abbrev pub landed : Answer → List ℕ → List ℕ
landed (Declined n) out = out
landed (Drafted h) out = out
landed (Value o) out = out
landed Done out = out
landed ReadOnly out = out
landed (Sent h ws) out = ws ++ drop (length ws) out
landed Pending out = out
landed (Told d) out = out
landed Opened out = out
landed Staged out = out
landed Sealed out = out
landed Idle out = out
landed (Wrote ws) out = ws ++ drop (length ws) out
landed (Woken k) out = out
