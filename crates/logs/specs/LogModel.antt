-- What a log holds, and what each of its functions answers and leaves.
use Rattle.std.specs.Prelude.{◌≡◌, ℕ, ◌+◌, ◌-◌, ◌*◌, ◌≤◌, min, max, Bool, true, false, cond, ◌&&◌, List, [], ◌∷◌, ◌++◌, length, drop, replicate, Some, None, Option, ◌==◌, nat_le, nat_lt, slice_set}
use Rattle.std.specs.List.{slice_get}
use Rattle.words.specs.declared.changes.Write.{Write}
use Rattle.words.specs.Bits.{every}
use Rattle.words.specs.Writes.{all_fit}
use Rattle.logs.specs.declared.heads.EntryHead.{EntryHead}
use Rattle.logs.specs.declared.heads.NewEntry.{NewEntry}

-- The largest version, place, ticket count and known number: what the load of a word holds.
abbrev pub limit : ℕ
limit = 268435455

-- What one commit wrote, and for whom.
pub record Entry : Type 0 where
  pub home : ℕ
  pub ticket : ℕ
  pub writes : List Write

-- Entries floor + 1 to floor + length entries; the capacity, and what each entry and each write costs of it;
-- the place; the known number of each site; the tickets given; whether the log is whole.
pub record LogModel : Type 0 where
  pub floor : ℕ
  pub entries : List Entry
  pub capacity : ℕ
  pub entry_cost : ℕ
  pub write_cost : ℕ
  pub place : ℕ
  pub known : List ℕ
  pub tickets : ℕ
  pub whole : Bool

-- The part of a log that is about its entries.
pub record Held : Type 0 where
  pub floor : ℕ
  pub entries : List Entry
  pub capacity : ℕ
  pub entry_cost : ℕ
  pub write_cost : ℕ

-- The part of a log that is about how far it has come.
pub record Marks : Type 0 where
  pub place : ℕ
  pub known : List ℕ
  pub tickets : ℕ
  pub whole : Bool

abbrev pub an_entry : ℕ → ℕ → List Write → Entry
an_entry home ticket writes = record { home = home; ticket = ticket; writes = writes }

abbrev pub entry_of : NewEntry → Entry
entry_of e = an_entry e.home e.ticket e.writes.now

abbrev pub a_holding : ℕ → List Entry → ℕ → ℕ → ℕ → Held
a_holding floor entries capacity entry_cost write_cost =
    record { floor = floor; entries = entries; capacity = capacity; entry_cost = entry_cost; write_cost = write_cost }

abbrev pub a_mark : ℕ → List ℕ → ℕ → Bool → Marks
a_mark place known tickets whole = record { place = place; known = known; tickets = tickets; whole = whole }

abbrev pub a_log : Held → Marks → LogModel
a_log h k = record {
  floor = h.floor;
  entries = h.entries;
  capacity = h.capacity;
  entry_cost = h.entry_cost;
  write_cost = h.write_cost;
  place = k.place;
  known = k.known;
  tickets = k.tickets;
  whole = k.whole;
}

abbrev pub held : LogModel → Held
held m = a_holding m.floor m.entries m.capacity m.entry_cost m.write_cost

abbrev pub marks : LogModel → Marks
marks m = a_mark m.place m.known m.tickets m.whole

-- A log of n sites that nothing has happened to.
abbrev pub nothing_held : ℕ → ℕ → ℕ → Held
nothing_held capacity entry_cost write_cost = a_holding 0 [] capacity entry_cost write_cost

abbrev pub first_marks : ℕ → Marks
first_marks n = a_mark 0 (replicate n 0) 0 true

abbrev pub fresh : ℕ → ℕ → ℕ → ℕ → LogModel
fresh n capacity entry_cost write_cost = a_log (nothing_held capacity entry_cost write_cost) (first_marks n)

-- Entries

-- The last version.
abbrev pub last_held : Held → ℕ
last_held h = h.floor + length h.entries

abbrev pub last_version : LogModel → ℕ
last_version m = last_held (held m)

-- What n writes cost as one entry, and what entries cost together.
abbrev pub cost : ℕ → ℕ → ℕ → ℕ
cost entry_cost write_cost n = entry_cost + write_cost * n

abbrev pub total_cost : ℕ → ℕ → List Entry → ℕ
total_cost entry_cost write_cost [] = 0
total_cost entry_cost write_cost (e ∷ es) =
    cost entry_cost write_cost (length e.writes) + total_cost entry_cost write_cost es

-- Whether every layout has room for the parts of an entry: at most 16 writes, and numbers that the words of a page hold.
abbrev pub loggable : Entry → Bool
loggable e = nat_lt e.home 16 && (nat_le e.ticket limit && (nat_le (length e.writes) 16 && all_fit e.writes))

abbrev pub all_loggable : List Entry → Bool
all_loggable [] = true
all_loggable (e ∷ es) = loggable e && all_loggable es

-- Whether the cost of one more entry of n writes fits.
abbrev pub fits : Held → ℕ → Bool
fits h n =
    nat_le (total_cost h.entry_cost h.write_cost h.entries + cost h.entry_cost h.write_cost n) h.capacity

-- Whether one more entry is taken.
abbrev pub can_append : Held → Entry → Bool
can_append h e = loggable e && (fits h (length e.writes) && nat_lt (last_held h) limit)

abbrev pub with_entries : Held → ℕ → List Entry → Held
with_entries h floor entries = a_holding floor entries h.capacity h.entry_cost h.write_cost

abbrev pub appended : Held → Entry → Held
appended h e = cond (can_append h e) (with_entries h h.floor (h.entries ++ (e ∷ []))) h

-- Without the entries up to the smaller of v and the last version.
abbrev pub held_above : Held → ℕ → Held
held_above h v =
    with_entries h (max h.floor (min v (last_held h))) (drop (min v (last_held h) - h.floor) h.entries)

-- The entry of version v; none at the floor or below it, or above the last version.
abbrev pub entry_held : Held → ℕ → Option Entry
entry_held h v = cond (nat_lt h.floor v) (slice_get h.entries (v - (h.floor + 1))) None

abbrev pub entry_at : LogModel → ℕ → Option Entry
entry_at m v = entry_held (held m) v

abbrev pub head_of : Entry → EntryHead
head_of e = record { home = e.home; ticket = e.ticket; count = length e.writes }

-- Its k-th write, from 0.
abbrev pub write_of : Option Entry → ℕ → Option Write
write_of None k = None
write_of (Some e) k = slice_get e.writes k

-- Marks

abbrev pub mark_passed : Marks → Marks
mark_passed k = cond (nat_lt k.place limit) (a_mark (k.place + 1) k.known k.tickets k.whole) k

-- A site out of range, and a number that no word holds, are not noted.
abbrev pub can_note : Marks → ℕ → ℕ → Bool
can_note k site number = nat_lt site (length k.known) && (nat_le number limit && nat_lt k.place limit)

abbrev pub mark_noted : Marks → ℕ → ℕ → Marks
mark_noted k site number =
    cond (can_note k site number) (a_mark (k.place + 1) (slice_set k.known site number) k.tickets k.whole) k

abbrev pub all_within : List ℕ → Bool
all_within = every (λ n. nat_le n limit)

-- As many numbers as there are sites, and each that a word holds.
abbrev pub can_close : Marks → ℕ → List ℕ → Bool
can_close k place known = length known == length k.known && (nat_le place limit && all_within known)

abbrev pub mark_closed : Marks → ℕ → List ℕ → Marks
mark_closed k place known = cond (can_close k place known) (a_mark place known k.tickets true) k

abbrev pub mark_ticketed : Marks → Marks
mark_ticketed k = cond (nat_lt k.tickets limit) (a_mark k.place k.known (k.tickets + 1) k.whole) k

abbrev pub mark_cleared : Marks → Marks
mark_cleared k = a_mark k.place k.known k.tickets false

-- The least of a list of numbers.
abbrev pub least : List ℕ → ℕ
least [] = 0
least (k ∷ []) = k
least (k ∷ (j ∷ js)) = min k (least (j ∷ js))

-- What each function leaves

abbrev pub can_commit : LogModel → Entry → Bool
can_commit m e = nat_lt m.place limit && can_append (held m) e

abbrev pub committed : LogModel → Entry → LogModel
committed m e = cond (can_commit m e) (a_log (appended (held m) e) (mark_passed (marks m))) m

abbrev pub can_copy : LogModel → Entry → Bool
can_copy m e = can_append (held m) e

abbrev pub copied : LogModel → Entry → LogModel
copied m e = cond (can_copy m e) (a_log (appended (held m) e) (mark_cleared (marks m))) m

abbrev pub passed : LogModel → LogModel
passed m = a_log (held m) (mark_passed (marks m))

abbrev pub noted : LogModel → ℕ → ℕ → LogModel
noted m site number = a_log (held m) (mark_noted (marks m) site number)

abbrev pub closed : LogModel → ℕ → List ℕ → LogModel
closed m place known = a_log (held m) (mark_closed (marks m) place known)

abbrev pub ticketed : LogModel → LogModel
ticketed m = a_log (held m) (mark_ticketed (marks m))

abbrev pub trimmed : LogModel → ℕ → LogModel
trimmed m v = a_log (held_above (held m) v) (marks m)

-- What holds of every log's entries, where an entry and a write cost so much.
pub record HeldBounds (entry_cost write_cost : ℕ) (h : Held) : Type 0 where
  pub entry_cost_held : h.entry_cost ≡ entry_cost
  pub write_cost_held : h.write_cost ≡ write_cost
  pub entry_cost_bound : entry_cost ≤ limit
  pub write_cost_bound : write_cost ≤ limit
  pub last_bound : last_held h ≤ limit
  pub capacity_bound : h.capacity ≤ limit
  pub affordable : total_cost h.entry_cost h.write_cost h.entries ≤ h.capacity
  pub readable : all_loggable h.entries ≡ true

-- What holds of every log.
pub record Bounded (m : LogModel) : Type 0 where
  pub last_bound : last_version m ≤ limit
  pub capacity_bound : m.capacity ≤ limit
  pub entry_cost_bound : m.entry_cost ≤ limit
  pub write_cost_bound : m.write_cost ≤ limit
  pub affordable : total_cost m.entry_cost m.write_cost m.entries ≤ m.capacity
  pub readable : all_loggable m.entries ≡ true
  pub place_bound : m.place ≤ limit
  pub tickets_bound : m.tickets ≤ limit
  pub known_bound : all_within m.known ≡ true
  pub few_sites : length m.known ≤ 8
  pub two_sites : 2 ≤ length m.known
