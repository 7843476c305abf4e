-- Playing calls: fresh sites, calls at them one after another, and what a run supposes as a test.
use Rattle.std.specs.Prelude.{ℕ, suc, Bool, true, false, ◌&&◌, ◌||◌, List, [], ◌∷◌, length, Some, None, Option, ◌==◌, nat_le, slice_set}
use Rattle.std.specs.List.{slice_get}
use Rattle.std.specs.Str.{bytes_eq}
use Rattle.words.specs.Bits.{is_group}
use Rattle.store.specs.StoreModel.{fresh as fresh-store}
use Rattle.logs.specs.LogModel.{LogModel, fresh as fresh-log, limit, all_within}
use Rattle.site.specs.SiteModel.{SiteModel}
use Rattle.site.specs.Making.{can_make, new_site}
use Rattle.site.specs.Calls.{Call, Deliver, Page, Take, Answer, Wrote}
use Rattle.group.specs.Record.{Turn, a_turn}
use Rattle.group.specs.Law.{at_place}
use Rattle.group.specs.Runs.{Acting}

-- What a fresh site is made of: the capacities of its store and its log, and what an entry and a write cost of the log's.
pub record Kit : Type 0 where
  pub store : ℕ
  pub log : ℕ
  pub entry_cost : ℕ
  pub write_cost : ℕ

abbrev pub a_kit : ℕ → ℕ → ℕ → ℕ → Kit
a_kit s l e w = record { store = s; log = l; entry_cost = e; write_cost = w }

abbrev pub kit_log : ℕ → Kit → LogModel
kit_log n k = fresh-log n k.log k.entry_cost k.write_cost

abbrev pub sites_from : ℕ → ℕ → List Kit → List SiteModel
sites_from n i [] = []
sites_from n i (k ∷ ks) = new_site i (fresh-store k.store) (kit_log n k) ∷ sites_from n (suc i) ks

-- Whether site i of a group of n can be made so.
abbrev pub can_stand : ℕ → ℕ → Kit → Bool
can_stand n i k =
    can_make i (fresh-store k.store) (kit_log n k) && (length (kit_log n k).known == n && (all_within (kit_log n k).known
    && (nat_le k.store limit && (nat_le k.log limit && (nat_le k.entry_cost limit && nat_le k.write_cost limit)))))

abbrev pub can_stand_from : ℕ → ℕ → List Kit → Bool
can_stand_from n i [] = true
can_stand_from n i (k ∷ ks) = can_stand n i k && can_stand_from n (suc i) ks

abbrev pub are_kits : List Kit → Bool
are_kits ks = is_group (length ks) && can_stand_from (length ks) 0 ks

-- A call at a site.
pub record Move : Type 0 where
  pub site : ℕ
  pub call : Call

abbrev pub at : ℕ → Call → Move
at i c = record { site = i; call = c }

-- The sites as they stand, and the record so far, the latest turn first.
pub record Stage : Type 0 where
  pub sites : List SiteModel
  pub turns : List Turn

abbrev pub a_stage : List SiteModel → List Turn → Stage
a_stage ss ts = record { sites = ss; turns = ts }

abbrev pub opening : List Kit → Stage
opening ks = a_stage (sites_from (length ks) 0 ks) []

-- One call after another; a call at no site is none.
abbrev pub answered_at : Stage → ℕ → Call → Answer × SiteModel → Stage
answered_at s i c r = a_stage (slice_set s.sites i r.1) (a_turn i c r.0 ∷ s.turns)

abbrev pub moved_in : Acting → Stage → ℕ → Call → Option SiteModel → Stage
moved_in act s i c None = s
moved_in act s i c (Some m) = answered_at s i c (act m c)

abbrev pub moved : Acting → Stage → Move → Stage
moved act s x = moved_in act s x.site x.call (slice_get s.sites x.site)

abbrev pub played : Acting → Stage → List Move → Stage
played act s [] = s
played act s (x ∷ xs) = played act (moved act s x) xs

-- Whether the words stand at the place.
abbrev pub are_words : Option (List ℕ) → List ℕ → Bool
are_words None ws = false
are_words (Some us) ws = bytes_eq us ws

-- Whether a page of these words was written.
abbrev pub wrote_words : List ℕ → Answer → Bool
wrote_words ws (Wrote us) = bytes_eq us ws
wrote_words ws _ = false

abbrev pub wrote_page : List ℕ → Answer → Call → Bool
wrote_page ws a (Page v room) = wrote_words ws a
wrote_page ws a _ = false

abbrev pub was_written : List ℕ → List Turn → Bool
was_written ws [] = false
was_written ws (t ∷ ts) = wrote_page ws t.answer t.call || was_written ws ts

-- What is supposed of a turn, as a test: a delivery hands in the words of its place, and a page taken was written before.
abbrev pub supposed : List (List ℕ) → List Turn → Call → Bool
supposed ms ts (Deliver p ws) = are_words (at_place ms p) ws
supposed ms ts (Take ws) = was_written ws ts
supposed ms ts _ = true

abbrev pub all_supposed : List (List ℕ) → List Turn → Bool
all_supposed ms [] = true
all_supposed ms (t ∷ ts) = supposed ms ts t.call && all_supposed ms ts
