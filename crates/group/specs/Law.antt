-- What is right in the record of a run, by the account of the whole list of messages.
use Rattle.std.specs.Prelude.{◌≡◌, ℕ, zero, suc, ◌<◌, true, List, [], ◌∷◌, take, ℤ, Some, None, Option}
use Rattle.std.specs.List.{slice_get}
use Rattle.words.specs.declared.changes.Write.{Write}
use Rattle.words.specs.Messages.{an_edit, message_of}
use Rattle.words.specs.Pages.{PageValue, an_entry, a_closing, page_of}
use Rattle.account.specs.declared.decisions.Decision.{Decision}
use Rattle.account.specs.declared.decisions.Decision.TheVariants.{Conflict, Commit}
use Rattle.account.specs.Account.{Committed, a_commit, meets, decisions, account_after, commits_of, commit_of, last_version}
use Rattle.account.specs.Laws.{ClearBetween}
use Rattle.account.specs.Scenes.{scene}
use Rattle.logs.specs.LogModel.{LogModel, Entry, entry_at}
use Rattle.site.specs.declared.handles.Handle.{Handle}
use Rattle.site.specs.Edits.{own_change}
use Rattle.site.specs.Certify.{as_commit}
use Rattle.site.specs.SiteModel.{SiteModel}
use Rattle.site.specs.Calls.{Read, Look, Outcome, Deliver, Page, Value, Pending, Told, Wrote, own_or}
use Rattle.group.specs.Record.{Turn, seals, snapshot, last_write, posted_as, first_told}

-- What stands at a place of a list, counted from 1.
abbrev pub at_place : {A : Type 0} → List A → ℕ → Option A
at_place xs zero = None
at_place xs (suc k) = slice_get xs k

-- A read: the draft's own write, or else what the commits up to its snapshot leave.
pub record ReadsRight (cs : List Committed) (h : Handle) (x : ℕ) (o : Option ℤ) (ts : List Turn) : Type 0 where
  pub version : ℕ
  pub begun : snapshot h ts ≡ Some version
  pub value : o ≡ own_or (last_write h x ts) (scene cs version x)

-- An edit of home h, ticket t, snapshot s and writes l. Told as committed: it is that version's commit, and no commit between
-- its snapshot and its version wrote one of its items. Told as in conflict: that commit is the lowest above its snapshot
-- that did.
pub record ToldRight (cs : List Committed) (h t s : ℕ) (l : List Write) (d : Decision) : Type 0 where
  pub commits : (v : ℕ) → d ≡ Commit v → (s < v) × (commit_of cs v ≡ Some (a_commit h t l)) × ClearBetween cs l s v
  pub conflicts : (w : ℕ) → d ≡ Conflict w →
      (s < w) × ((c : Committed) × ((commit_of cs w ≡ Some c) × (meets c.writes l ≡ true))) × ClearBetween cs l s w

-- A delivery: its place is decided as the account of the whole list decides it, and an edit is rightly told.
pub record DecidesRight (n : ℕ) (ms : List (List ℕ)) (place : ℕ) (ws : List ℕ) (d : Decision) : Type 0 where
  pub account : at_place (decisions n ms) place ≡ Some d
  pub edit : (h t s : ℕ) (l : List Write) → message_of n ws ≡ Some (an_edit h t s l) → ToldRight (commits_of n ms) h t s l d

-- An outcome: what the first delivery of the post's words told; these are the edit of its draft, with the draft's snapshot
-- and last writes, and it is rightly told.
pub record OutcomeRight (n : ℕ) (cs : List Committed) (h : Handle) (d : Decision) (ts : List Turn) : Type 0 where
  pub told : first_told h ts ≡ Some d
  pub words : List ℕ
  pub posted : posted_as h ts ≡ Some words
  pub version : ℕ
  pub begun : snapshot h ts ≡ Some version
  pub writes : List Write
  pub edit : message_of n words ≡ Some (an_edit h.site h.ticket version writes)
  pub own : (x : ℕ) → own_change writes x ≡ last_write h x ts
  pub right : ToldRight cs h.site h.ticket version writes d

-- Pending: the words were posted, and none of them was delivered since.
pub record PendingRight (h : Handle) (ts : List Turn) : Type 0 where
  pub words : List ℕ
  pub posted : posted_as h ts ≡ Some words
  pub untold : first_told h ts ≡ None

-- A page: an entry is that version's commit; a closing page has the last version and the known numbers of its place.
abbrev pub PageRight : ℕ → List (List ℕ) → PageValue → Type 0
PageRight n ms (an_entry h v t l) = commit_of (commits_of n ms) v ≡ Some (a_commit h t l)
PageRight n ms (a_closing v d ks) = (v ≡ last_version (account_after n (take d ms))) × (ks ≡ (account_after n (take d ms)).known)

pub record WritesRight (n : ℕ) (ms : List (List ℕ)) (ws : List ℕ) : Type 0 where
  pub page : PageValue
  pub reads : page_of n ws ≡ Some page
  pub right : PageRight n ms page

-- One turn is right by the turns before it.
pub record TurnRight (n : ℕ) (ms : List (List ℕ)) (t : Turn) (ts : List Turn) : Type 0 where
  pub reads : (h : Handle) (x : ℕ) (o : Option ℤ) → t.call ≡ Read h x → t.answer ≡ Value o → ReadsRight (commits_of n ms) h x o ts
  pub looks : (x : ℕ) (o : Option ℤ) → t.call ≡ Look x → t.answer ≡ Value o → o ≡ scene (commits_of n ms) (seals t.site ts) x
  pub decides : (p : ℕ) (ws : List ℕ) (d : Decision) → t.call ≡ Deliver p ws → t.answer ≡ Told d → DecidesRight n ms p ws d
  pub tells : (h : Handle) (d : Decision) → t.call ≡ Outcome h → t.answer ≡ Told d → OutcomeRight n (commits_of n ms) h d ts
  pub pends : (h : Handle) → t.call ≡ Outcome h → t.answer ≡ Pending → PendingRight h ts
  pub pages : (v room : ℕ) (ws : List ℕ) → t.call ≡ Page v room → t.answer ≡ Wrote ws → WritesRight n ms ws

abbrev pub RecordRight : ℕ → List (List ℕ) → List Turn → Type 0
RecordRight n ms [] = Unit {0}
RecordRight n ms (t ∷ ts) = TurnRight n ms t ts × RecordRight n ms ts

-- Every entry that a log answers is that version's commit: home, ticket and writes.
abbrev pub LogRight : List Committed → LogModel → Type 0
LogRight cs l = (v : ℕ) (e : Entry) → entry_at l v ≡ Some e → commit_of cs v ≡ Some (as_commit e)

abbrev pub LogsRight : ℕ → List (List ℕ) → List SiteModel → Type 0
LogsRight n ms ss = (i : ℕ) (m : SiteModel) → slice_get ss i ≡ Some m → LogRight (commits_of n ms) m.log
