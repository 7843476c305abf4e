-- Pages: what a site writes for another that catches up, and what that one takes.
use Rattle.std.specs.Prelude.{ℕ, ◌+◌, Bool, true, false, cond, not, ◌&&◌, List, [], ◌∷◌, Some, None, Option, ◌==◌, nat_le}
use Rattle.words.specs.Pages.{PageValue, an_entry, a_closing}
use Rattle.logs.specs.LogModel.{LogModel, Entry, an_entry as entry_of, last_version, entry_at, can_copy, copied, closed}
use Rattle.site.specs.declared.modes.Mode.{Mode}
use Rattle.site.specs.declared.modes.Mode.TheVariants.{Whole, Partial}
use Rattle.site.specs.declared.modes.Event.{Event}
use Rattle.site.specs.declared.modes.Event.TheVariants.{TakeEntry, TakeClosing, Other}
use Rattle.site.specs.Modes.{Reply, given, refused}

-- The page after version v: the next entry, or the closing page where v is the last version.
abbrev pub page_after : LogModel → ℕ → Option Entry → PageValue
page_after l v None = a_closing (last_version l) l.place l.known
page_after l v (Some e) = an_entry e.home (v + 1) e.ticket e.writes

abbrev pub page_at : LogModel → ℕ → PageValue
page_at l v = page_after l v (entry_at l (v + 1))

-- Whether no number of the first list is above its neighbour in the second.
abbrev pub covers : List ℕ → List ℕ → Bool
covers [] js = true
covers (k ∷ ks) [] = false
covers (k ∷ ks) (j ∷ js) = nat_le k j && covers ks js

-- Whether a page follows on what the log has: the next entry, or a closing page of the last version that lowers nothing.
abbrev pub follows : LogModel → PageValue → Bool
follows l (an_entry h v t ws) = v == last_version l + 1
follows l (a_closing v d ks) = v == last_version l && (nat_le l.place d && covers l.known ks)

-- Whether the log has room for it.
abbrev pub has_room_for : LogModel → PageValue → Bool
has_room_for l (an_entry h v t ws) = can_copy l (entry_of h t ws)
has_room_for l (a_closing v d ks) = true

-- The log and the mode after it.
abbrev pub log_taken : LogModel → PageValue → LogModel
log_taken l (an_entry h v t ws) = copied l (entry_of h t ws)
log_taken l (a_closing v d ks) = closed l d ks

abbrev pub mode_taken : PageValue → Mode
mode_taken (an_entry h v t ws) = Partial
mode_taken (a_closing v d ks) = Whole

-- A page into a log: 17 where it does not follow, 13 where the log has no room.
abbrev pub page_entered : LogModel → PageValue → Reply (Unit {0}) × LogModel
page_entered l p = cond (follows l p) (cond (has_room_for l p) (given tt, log_taken l p) (refused 13, l)) (refused 17, l)

-- What the mode has to say to it; words that are no page leave the mode.
abbrev pub taking : Option PageValue → Event
taking None = Other
taking (Some (an_entry h v t ws)) = TakeEntry
taking (Some (a_closing v d ks)) = TakeClosing

-- Whether there is a page that fails the test.
abbrev pub fails : (PageValue → Bool) → Option PageValue → Bool
fails test None = false
fails test (Some p) = not (test p)
