-- What holds of a site throughout a run, by the record so far, and how its parts may change.
use Rattle.std.proofs.Common.{◌≡◌, ℕ, ◌<◌, ◌≤◌, Bool, true, false, List, ◌∷◌, Option, ◌∙◌, arith}
use Rattle.std.proofs.lemmas.Bool.Decides.{nat_tests}
use Rattle.words.specs.Bits.{is_group}
use Rattle.account.specs.Account.{commits_of}
use Rattle.store.specs.StoreModel.{StoreModel}
use Rattle.logs.specs.LogModel.{LogModel, last_version}
use Rattle.site.specs.declared.handles.Handle.{Handle}
use Rattle.site.specs.declared.modes.Mode.{Mode}
use Rattle.site.specs.declared.modes.Mode.TheVariants.{Whole, Partial, Down}
use Rattle.site.specs.Slots.{SlotModel}
use Rattle.site.specs.SiteModel.{SiteModel, with_store, with_log, with_mode, with_slots, with_change}
use Rattle.site.specs.Calls.{Call, Answer, is_down, is_partial}
use Rattle.group.specs.Record.{Turn, a_turn, nothing, deed, deed_of, seals}
use Rattle.group.proofs.LogSound.{LogSound}
use Rattle.group.proofs.Turns.{Same, OfSite, same_elsewhere}
use Rattle.group.proofs.SlotsRight.{SlotsRight, slots_on}
use Rattle.group.proofs.StoreRight.{StoreRight, ChangeRight, change_on}

-- A mode by the log's mark.
abbrev pub Fits : Mode → Bool → Type 0
Fits Whole b = b ≡ true
Fits Partial b = b ≡ false
Fits Down b = Unit {0}

pub whole_log : (k : Mode) (b : Bool) → Fits k b → is_down k ≡ false → is_partial k ≡ false → b ≡ true
whole_log k b f d p = grind arith

-- The slots ss of a site by a record, where reads are kept from version `low` on.
abbrev pub SlotsBy : List (List ℕ) → SiteModel → ℕ → List Turn → List SlotModel → Type 0
SlotsBy ms m low us ss = SlotsRight m.sites (commits_of m.sites ms) m.number us m.log.tickets low m.store.version ss

pub record Sound (ms : List (List ℕ)) (ts : List Turn) (m : SiteModel) : Type 0 where
  pub group : is_group m.sites ≡ true
  pub mine : m.number < m.sites
  pub log : LogSound m.sites ms m.log
  pub tickets : m.log.tickets ≤ 268435455
  pub under : m.log.floor ≤ m.store.version
  pub over : m.store.version ≤ last_version m.log
  pub mode : Fits m.mode m.log.whole
  pub low : ℕ
  pub store : StoreRight (commits_of m.sites ms) low m.store
  pub change : ChangeRight (commits_of m.sites ms) (last_version m.log) m.store m.change
  pub slots : SlotsBy ms m low ts m.slots

module _ {ms : List (List ℕ)} {ts : List Turn} {m : SiteModel} (s : Sound ms ts m) where
  -- other slots, by another record
  pub sound_slots : (us : List Turn) (ss : List SlotModel) → SlotsBy ms m s.low us ss → Sound ms us (with_slots m ss)
  sound_slots us ss r = search

  -- another log, whose last version is not lower, and another mode
  pub sound_log : (l : LogModel) (k : Mode) → LogSound m.sites ms l → l.tickets ≡ m.log.tickets → l.floor ≤ m.store.version →
      last_version m.log ≤ last_version l → Fits k l.whole → Sound ms ts (with_mode (with_log m l) k)
  sound_log l k g t f b z =
      let change = change_on (commits_of m.sites ms) m.store (last_version m.log) (last_version l) m.change b s.change in
      let slots = rw (← t) at s.slots in
      search arith

  -- another store and change, by another record
  pub sound_store : (us : List Turn) (g : StoreModel) (o : Option ℕ) (low : ℕ) → StoreRight (commits_of m.sites ms) low g →
      ChangeRight (commits_of m.sites ms) (last_version m.log) g o → m.log.floor ≤ g.version → g.version ≤ last_version m.log →
      SlotsBy ms (with_store m g) low us m.slots → Sound ms us (with_change (with_store m g) o)
  sound_store us g o low st ch u v r = search

  -- the same site, where the record says the same of its handles
  slots_same : (us : List Turn) → ((h : Handle) → h.site ≡ m.number → Same h ts us) → seals m.number us ≡ seals m.number ts →
      SlotsBy ms m s.low us m.slots
  slots_same us q c = slots_on s.slots us m.store.version q (omega arith) (c ∙ s.slots.count)

  -- a turn here that does nothing, and any turn elsewhere
  pub slots_quiet : (c : Call) (a : Answer) → deed_of a c ≡ nothing → SlotsBy ms m s.low (a_turn m.number c a ∷ ts) m.slots
  slots_quiet c a e =
      slots_same (a_turn m.number c a ∷ ts) (λ h _. grind (arith, nat_tests)) (grind (arith, nat_tests))

  pub sound_quiet : (c : Call) (a : Answer) → deed_of a c ≡ nothing → Sound ms (a_turn m.number c a ∷ ts) m
  sound_quiet c a e = sound_slots _ m.slots (slots_quiet c a e)

  pub sound_elsewhere : (t : Turn) → OfSite t.site (deed t) → (t.site ≡ m.number → ⊥) → Sound ms (t ∷ ts) m
  sound_elsewhere t o n =
      sound_slots (t ∷ ts) m.slots (slots_same (t ∷ ts) (λ h e. same_elsewhere h ts t o (λ p. n (p ∙ e))) (grind (arith, nat_tests)))
