-- The record of a run, and what it says of versions, drafts and posted edits. The latest turn stands first.
use Rattle.std.specs.Prelude.{ℕ, suc, Bool, false, cond, ◌&&◌, List, [], ◌∷◌, Some, None, Option, ◌==◌}
use Rattle.std.specs.Str.{bytes_eq}
use Rattle.words.specs.declared.changes.Change.{Change}
use Rattle.words.specs.declared.changes.Write.{Write}
use Rattle.words.specs.Messages.{or_else}
use Rattle.account.specs.declared.decisions.Decision.{Decision}
use Rattle.site.specs.declared.handles.Handle.{Handle}
use Rattle.site.specs.Calls.{Call, Put, Deliver, Answer, Drafted, Done, Sent, Told, Sealed, same_handle}

-- One turn: at which site, what was called, and what was answered.
pub record Turn : Type 0 where
  pub site : ℕ
  pub call : Call
  pub answer : Answer

abbrev pub a_turn : ℕ → Call → Answer → Turn
a_turn i c a = record { site = i; call = c; answer = a }

-- What was done in a turn, as far as later answers depend on it: a draft began, wrote or was posted as words; words were
-- delivered and decided; a version was sealed.
pub data Deed : Type 0 where
  nothing : Deed
  began : Handle → Deed
  wrote : Handle → Write → Deed
  posted : Handle → List ℕ → Deed
  decided : List ℕ → Decision → Deed
  sealed : Deed

-- A call that was done and answered no more than that: only a write counts.
abbrev pub done_by : Call → Deed
done_by (Put h w) = wrote h w
done_by _ = nothing

-- A call that told a decision: only a delivery makes it.
abbrev pub told_by : Decision → Call → Deed
told_by d (Deliver p ws) = decided ws d
told_by d _ = nothing

abbrev pub deed_of : Answer → Call → Deed
deed_of (Drafted h) c = began h
deed_of Done c = done_by c
deed_of (Sent h ws) c = posted h ws
deed_of (Told d) c = told_by d c
deed_of Sealed c = sealed
deed_of _ c = nothing

abbrev pub deed : Turn → Deed
deed t = deed_of t.answer t.call

-- How many versions a site has sealed.
abbrev pub seals_by : Deed → ℕ → ℕ
seals_by sealed n = suc n
seals_by _ n = n

abbrev pub seals : ℕ → List Turn → ℕ
seals i [] = 0
seals i (t ∷ ts) = cond (t.site == i) (seals_by (deed t) (seals i ts)) (seals i ts)

-- A draft's snapshot: how many versions its site had sealed before it began.
abbrev pub begins : Handle → Deed → Bool
begins h (began b) = same_handle b h
begins h _ = false

abbrev pub snapshot : Handle → List Turn → Option ℕ
snapshot h [] = None
snapshot h (t ∷ ts) = cond (begins h (deed t)) (Some (seals h.site ts)) (snapshot h ts)

-- A draft's last write that was carried out to an item.
abbrev pub writes_by : Handle → ℕ → Deed → Option Change
writes_by h x (wrote b w) = cond (same_handle b h && w.item == x) (Some w.change) None
writes_by h x _ = None

abbrev pub last_write : Handle → ℕ → List Turn → Option Change
last_write h x [] = None
last_write h x (t ∷ ts) = or_else (writes_by h x (deed t)) (last_write h x ts)

-- The words that a draft was posted as.
abbrev pub posts_by : Handle → Deed → Option (List ℕ)
posts_by h (posted b ws) = cond (same_handle b h) (Some ws) None
posts_by h _ = None

abbrev pub posted_as : Handle → List Turn → Option (List ℕ)
posted_as h [] = None
posted_as h (t ∷ ts) = or_else (posts_by h (deed t)) (posted_as h ts)

-- What the first delivery of these words told, of those that a site carried out after the post.
abbrev pub tells_of : Option (List ℕ) → Deed → Option Decision
tells_of (Some ws) (decided us d) = cond (bytes_eq ws us) (Some d) None
tells_of _ _ = None

abbrev pub first_told : Handle → List Turn → Option Decision
first_told h [] = None
first_told h (t ∷ ts) =
    or_else (first_told h ts) (cond (t.site == h.site) (tells_of (posted_as h ts) (deed t)) None)
