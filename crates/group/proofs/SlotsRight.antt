-- What the slots of a site owe to the record, and what every turn leaves of that.
use Rattle.std.proofs.Common.{◌≡◌, ℕ, ◌<◌, ◌≤◌, true, List, ◌∷◌, length, set, replicate, Some, None, refl, arith}
use Rattle.std.specs.List.{slice_get}
use Rattle.std.proofs.lemmas.Bool.Decides.{nat_tests}
use Rattle.words.specs.Writes.{fit_from}
use Rattle.account.specs.Account.{Committed}
use Rattle.site.specs.declared.handles.Handle.{Handle}
use Rattle.site.specs.Handles.{a_handle}
use Rattle.site.specs.Edits.{EditModel, own_change}
use Rattle.site.specs.Spelling.{own_words}
use Rattle.site.specs.Slots.{SlotModel, empty, opened, posted, decided}
use Rattle.group.specs.Record.{Turn, deed, seals, snapshot, last_write, posted_as, first_told}
use Rattle.group.specs.Law.{OutcomeRight}
use Rattle.group.proofs.Turns.{Same, About, same_about}
use Rattle.group.proofs.Tables.{set_each, replicate_each, NeedsFrom}

-- An edit under a handle, open or posted: its ticket was given, its snapshot is still kept, its writes are those of the
-- record, and nothing was told of it.
pub record Live (h : Handle) (ts : List Turn) (tickets low v : ℕ) (e : EditModel) : Type 0 where
  pub first : 0 < e.ticket
  pub given : e.ticket ≤ tickets
  pub from : low ≤ e.snapshot
  pub to : e.snapshot ≤ v
  pub few : length e.writes ≤ 16
  pub fits : fit_from 0 e.writes ≡ true
  pub begun : snapshot h ts ≡ Some e.snapshot
  pub own : (x : ℕ) → own_change e.writes x ≡ last_write h x ts
  pub untold : first_told h ts ≡ None

-- Nothing was said of a handle.
pub record Unheard (h : Handle) (ts : List Turn) : Type 0 where
  pub unwritten : (x : ℕ) → last_write h x ts ≡ None
  pub unposted : posted_as h ts ≡ None
  pub untold : first_told h ts ≡ None

unheard_on : {h : Handle} {ts us : List Turn} → Same h ts us → Unheard h ts → Unheard h us
unheard_on s u = grind arith

-- The slots of site i in a group of n.
module _ (n : ℕ) (cs : List Committed) (i : ℕ) where
  abbrev pub SlotRight : List Turn → ℕ → ℕ → ℕ → ℕ → SlotModel → Type 0
  SlotRight ts tickets low v k empty = Unit {0}
  SlotRight ts tickets low v k (opened e) = Live (a_handle i k e.ticket) ts tickets low v e × (posted_as (a_handle i k e.ticket) ts ≡ None)
  SlotRight ts tickets low v k (posted e) =
      Live (a_handle i k e.ticket) ts tickets low v e × (posted_as (a_handle i k e.ticket) ts ≡ Some (own_words i e)) × (0 < length e.writes)
  SlotRight ts tickets low v k (decided t d) = OutcomeRight n cs (a_handle i k t) d ts

  pub record SlotsRight (ts : List Turn) (tickets low v : ℕ) (ss : List SlotModel) : Type 0 where
    pub each : (k : ℕ) (s : SlotModel) → slice_get ss k ≡ Some s → SlotRight ts tickets low v k s
    pub count : seals i ts ≡ v
    pub unheard : (h : Handle) → h.site ≡ i → tickets < h.ticket → Unheard h ts

  slot_on : (ts us : List Turn) (tickets more low v w k : ℕ) → ((t : ℕ) → Same (a_handle i k t) ts us) → tickets ≤ more → v ≤ w →
      (s : SlotModel) → SlotRight ts tickets low v k s → SlotRight us more low w k s
  slot_on ts us tickets more low v w k q a b s r = grind arith

  slot_from : (ts : List Turn) (tickets low new v k : ℕ) (s : SlotModel) → NeedsFrom new s → SlotRight ts tickets low v k s → SlotRight ts tickets new v k s
  slot_from ts tickets low new v k s l r = grind arith

  slot_needs : (ts : List Turn) (tickets low v k : ℕ) (s : SlotModel) → SlotRight ts tickets low v k s → NeedsFrom low s
  slot_needs ts tickets low v k s r = grind arith

module _ {n : ℕ} {cs : List Committed} {i : ℕ} {ts : List Turn} {tickets low v : ℕ} {ss : List SlotModel} (r : SlotsRight n cs i ts tickets low v ss) where
  -- turns that say nothing of the site's handles, or only seal
  pub slots_on : (us : List Turn) (w : ℕ) → ((h : Handle) → h.site ≡ i → Same h ts us) → v ≤ w → seals i us ≡ w → SlotsRight n cs i us tickets low w ss
  slots_on us w q b c = record {
    each = λ k s e. slot_on n cs i ts us tickets tickets low v w k (λ t. q (a_handle i k t) refl) (omega arith) b s (r.each k s e);
    count = c;
    unheard = λ h e l. unheard_on (q h e) (r.unheard h e l);
  }

  -- a turn about one handle, whose slot it sets
  pub slots_about : (a : Handle) (t : Turn) (more : ℕ) (s : SlotModel) → About a (deed t) → tickets ≤ more → a.ticket ≤ more →
      SlotRight n cs i (t ∷ ts) more low v a.slot s → SlotsRight n cs i (t ∷ ts) more low v (set ss a.slot s)
  slots_about a t more s b l m new = record {
    each = set_each (SlotRight n cs i (t ∷ ts) more low v) ss a.slot s
        (λ k x apart e. slot_on n cs i ts (t ∷ ts) tickets more low v v k
        (λ u. same_about a (a_handle i k u) ts t b (grind (arith, nat_tests))) l (omega arith) x (r.each k x e)) new;
    count = grind (arith, nat_tests);
    unheard = λ h e new-ticket. unheard_on (same_about a h ts t b (grind (arith, nat_tests))) (r.unheard h e (omega arith));
  }

  -- other slots, each right
  slots_with : (us : List SlotModel) → ((k : ℕ) (s : SlotModel) → slice_get us k ≡ Some s → SlotRight n cs i ts tickets low v k s) →
      SlotsRight n cs i ts tickets low v us
  slots_with us f = record { each = f; count = r.count; unheard = r.unheard }

  pub slot_emptied : (j : ℕ) → SlotsRight n cs i ts tickets low v (set ss j empty)
  slot_emptied j = slots_with _ (set_each (SlotRight n cs i ts tickets low v) ss j empty (λ k s _ e. r.each k s e) tt)

  pub slots_emptied : (m : ℕ) → SlotsRight n cs i ts tickets low v (replicate m empty)
  slots_emptied m = slots_with _ (replicate_each (SlotRight n cs i ts tickets low v) m empty (λ k. tt))

  -- the bound below the snapshots, and another one
  pub slots_need : (k : ℕ) (s : SlotModel) → slice_get ss k ≡ Some s → NeedsFrom low s
  slots_need k s e = slot_needs n cs i ts tickets low v k s (r.each k s e)

  pub slots_from : (new : ℕ) → ((k : ℕ) (s : SlotModel) → slice_get ss k ≡ Some s → NeedsFrom new s) → SlotsRight n cs i ts tickets new v ss
  slots_from new f = record {
    each = λ k s e. slot_from n cs i ts tickets low new v k s (f k s e) (r.each k s e);
    count = r.count;
    unheard = r.unheard;
  }
