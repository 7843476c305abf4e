-- Certification over a log: the entries above an edit's snapshot.
use Rattle.std.specs.Prelude.{ℕ, ◌-◌, min, max, Bool, true, false, not, ◌&&◌, List, map, drop, Some, None, Option, nat_lt}
use Rattle.words.specs.declared.changes.Write.{Write}
use Rattle.words.specs.Messages.{MessageValue, an_edit, a_report}
use Rattle.std.specs.List.{slice_get}
use Rattle.account.specs.declared.decisions.Decision.{Decision}
use Rattle.account.specs.declared.decisions.Decision.TheVariants.{Void, Noted, Ahead, TooOld, Conflict, Commit}
use Rattle.account.specs.Account.{Committed, a_commit, lowest_clash, ruling}
use Rattle.logs.specs.LogModel.{LogModel, Entry, an_entry, last_version, least, can_commit, committed, passed, noted}

-- An entry as a commit of the account.
abbrev pub as_commit : Entry → Committed
as_commit e = a_commit e.home e.ticket e.writes

-- The lowest version above s, of those that the log has, whose entry writes an item of l.
abbrev pub clash_above : LogModel → ℕ → List Write → Option ℕ
clash_above m s l = lowest_clash l (max s m.floor) (drop (s - m.floor) (map as_commit m.entries))

-- An edit of snapshot s and writes l, by the log: ahead, too old, in conflict, or the next version.
abbrev pub judged_by : LogModel → ℕ → List Write → Decision
judged_by m s l = ruling (nat_lt (last_version m) s) (nat_lt s (least m.known)) (clash_above m s l) (last_version m)

-- What a log decides of a message, or of words that are none.
abbrev pub certified : LogModel → Option MessageValue → Decision
certified m None = Void
certified m (Some (a_report i r)) = Noted
certified m (Some (an_edit h t s l)) = judged_by m s l

-- A commit is kept as an entry; any other decision of an edit only passes its place.
abbrev pub kept : LogModel → Entry → Decision → LogModel
kept m e Void = passed m
kept m e Noted = passed m
kept m e Ahead = passed m
kept m e TooOld = passed m
kept m e (Conflict w) = passed m
kept m e (Commit v) = committed m e

abbrev pub is_commit : Decision → Bool
is_commit Void = false
is_commit Noted = false
is_commit Ahead = false
is_commit TooOld = false
is_commit (Conflict w) = false
is_commit (Commit v) = true

abbrev pub number_or_zero : Option ℕ → ℕ
number_or_zero None = 0
number_or_zero (Some n) = n

-- A report raises its site's known number, to no more than the last version.
abbrev pub heard_by : LogModel → ℕ → ℕ → LogModel
heard_by m i r = noted m i (max (number_or_zero (slice_get m.known i)) (min r (last_version m)))

-- The log after a message.
abbrev pub log_after : LogModel → Option MessageValue → LogModel
log_after m None = passed m
log_after m (Some (a_report i r)) = heard_by m i r
log_after m (Some (an_edit h t s l)) = kept m (an_entry h t l) (judged_by m s l)

-- Whether the message commits and the log declines it.
abbrev pub declines : LogModel → Option MessageValue → Bool
declines m None = false
declines m (Some (a_report i r)) = false
declines m (Some (an_edit h t s l)) = is_commit (judged_by m s l) && not (can_commit m (an_entry h t l))
