-- What holds of every log, whatever is called.
use Rattle.std.specs.Prelude.{◌≡◌, ℕ, ◌<◌, ◌≤◌, List, Some}
use Rattle.std.specs.List.{ContainsAt, AllByRecursion}
use Rattle.logs.specs.LogModel.{Entry, LogModel, Bounded, last_version, entry_at, least, committed, copied, passed, noted, closed, ticketed, trimmed}

-- A call that changes a log.
pub data Call : Type 0 where
  Commit : (e : Entry) → Call
  Copy : (e : Entry) → Call
  Pass : Call
  Note : (site number : ℕ) → Call
  Close : (place : ℕ) (known : List ℕ) → Call
  Ticket : Call
  Trim : (v : ℕ) → Call

-- What it leaves.
abbrev pub after : LogModel → Call → LogModel
after m (Commit e) = committed m e
after m (Copy e) = copied m e
after m Pass = passed m
after m (Note site number) = noted m site number
after m (Close place known) = closed m place known
after m Ticket = ticketed m
after m (Trim v) = trimmed m v

-- An entry, once there, is never another: after any call it is as it was, or the floor has come to it.
abbrev pub EntriesStay : Type 0
EntriesStay = (m : LogModel) (c : Call) (v : ℕ) (e : Entry) → entry_at m v ≡ Some e → (after m c).floor < v → entry_at (after m c) v ≡ Some e

-- Entries are there exactly from the floor to the last version, so they only go from the front.
abbrev pub EntriesFollow : Type 0
EntriesFollow = (m : LogModel) (v : ℕ) → m.floor < v → v ≤ last_version m → (e : Entry) × (entry_at m v ≡ Some e)

-- A trim removes no entry above its bound, and changes nothing that is above.
abbrev pub TrimKeepsAbove : Type 0
TrimKeepsAbove = (m : LogModel) (bound v : ℕ) → bound < v → entry_at (trimmed m bound) v ≡ entry_at m v

-- The floor and the last version never fall, and a closing alone may lower the place.
abbrev pub NumbersRise : Type 0
NumbersRise = (m : LogModel) (c : Call) → (m.floor ≤ (after m c).floor) × (last_version m ≤ last_version (after m c))

abbrev pub is_close : Call → Type 0
is_close (Commit e) = ⊥
is_close (Copy e) = ⊥
is_close Pass = ⊥
is_close (Note site number) = ⊥
is_close (Close place known) = Unit {0}
is_close Ticket = ⊥
is_close (Trim v) = ⊥

abbrev pub PlaceRises : Type 0
PlaceRises = (m : LogModel) (c : Call) → (is_close c → ⊥) → m.place ≤ (after m c).place

-- The least known number is one of the known numbers, and none is below it.
abbrev pub LeastOfKnown : Type 0
LeastOfKnown = (m : LogModel) → Bounded m → ContainsAt m.known (least m.known) × AllByRecursion (λ k. least m.known ≤ k) m.known
