-- What a sound site answers is right.
use Rattle.std.proofs.Common.{◌≡◌, ℕ, List, ℤ, Some, None, Option, sym, refl, ap, ◌∙◌, subst, inl, inr, arith}
use Rattle.std.specs.List.{slice_get}
use Rattle.std.proofs.lemmas.Bool.{not-false}
use Rattle.words.specs.Messages.{message_of}
use Rattle.words.specs.Pages.{page_words}
use Rattle.account.specs.declared.decisions.Decision.{Decision}
use Rattle.account.specs.Account.{Committed, commits_of}
use Rattle.account.specs.Scenes.{scene}
use Rattle.site.specs.declared.handles.Handle.{Handle}
use Rattle.site.specs.Edits.{EditModel}
use Rattle.site.specs.Slots.{posted, decided, held_decision}
use Rattle.site.specs.Certify.{certified}
use Rattle.site.specs.CatchUp.{page_at}
use Rattle.site.specs.SiteModel.{SiteModel}
use Rattle.site.specs.Calls.{first, Call, Read, Look, Outcome, Deliver, Page, Value, Pending, Told, Wrote, table, called}
use Rattle.group.specs.Record.{Turn, a_turn, seals}
use Rattle.group.specs.Law.{at_place, ReadsRight, DecidesRight, OutcomeRight, PendingRight, WritesRight, TurnRight}
use Rattle.group.specs.Runs.{Supposed}
use Rattle.group.proofs.LogSound.{log_writes}
use Rattle.group.proofs.Tables.{draft_slot, awaited_slot}
use Rattle.group.proofs.Refusals.{passed, carried, the_draft}
use Rattle.group.proofs.SiteSound.{whole_log, Sound}
use Rattle.group.proofs.DraftCalls.{draft_right}
use Rattle.group.proofs.LogCalls.{delivery_decides}

module _ {ms : List (List ℕ)} {ts : List Turn} {m : SiteModel} (s : Sound ms ts m) where
  abbrev cs : List Committed
  cs = commits_of m.sites ms

  reads_right : (h : Handle) (x : ℕ) (o : Option ℤ) → (called m (Read h x)).0 ≡ Value o → ReadsRight cs h x o ts
  reads_right h x o q =
      let c = carried m (Read h x) (Value o) q tt in
      let d = the_draft m (Read h x) h c.0 refl in
      let e : EditModel = d.0 in
      let drafted = d.1 in
      let live = rw (← (draft_slot m h e d.1).handle) at (draft_right s h e d.1).0 in
      let own = live.own x in
      let reads = s.store.reads e.snapshot x live.from live.to in
      let said = c.1 in
      record { version = e.snapshot; begun = live.begun; value = cc }

  looks_right : (x : ℕ) (o : Option ℤ) → (called m (Look x)).0 ≡ Value o → o ≡ scene cs (seals m.number ts) x
  looks_right x o q =
      let said = (carried m (Look x) (Value o) q tt).1 in
      let reads = s.store.reads m.store.version x s.store.within (omega arith) in
      let count = s.slots.count in
      cc

  decides_right : (p : ℕ) (ws : List ℕ) (d : Decision) → (called m (Deliver p ws)).0 ≡ Told d → at_place ms p ≡ Some ws → DecidesRight m.sites ms p ws d
  decides_right p ws d q g =
      let c = carried m (Deliver p ws) (Told d) q tt in
      let said = c.1 in
      let same : certified m.log (message_of m.sites ws) ≡ d = cc in
      rw same at (delivery_decides s p ws c.0 g)

  -- a posted edit, by its handle: decided or pending
  abbrev AwaitedRight : Handle → Option Decision → Type 0
  AwaitedRight h None = PendingRight h ts
  AwaitedRight h (Some d) = OutcomeRight m.sites cs h d ts

  awaited_right : (h : Handle) → first (table m (Outcome h)) ≡ None → AwaitedRight h (held_decision (slice_get m.slots h.slot))
  awaited_right h f =
      elim (awaited_slot m h (not-false _ (passed (table m (Outcome h)) 6 f))) [
        | inl x ↦ (let a = s.slots.each h.slot (posted x.0) x.1.there in
            rw x.1.there (subst (λ g. PendingRight g ts) (sym x.1.handle) (record { words = _; posted = a.1; untold = a.0.untold })))
        | inr x ↦ rw x.2.there (subst (λ g. OutcomeRight m.sites cs g x.1 ts) (sym x.2.handle) (s.slots.each h.slot (decided x.0 x.1) x.2.there))
      ]

  tells_right : (h : Handle) (d : Decision) → (called m (Outcome h)).0 ≡ Told d → OutcomeRight m.sites cs h d ts
  tells_right h d q =
      let c = carried m (Outcome h) (Told d) q tt in
      let a = awaited_right h c.0 in
      grind arith

  pends_right : (h : Handle) → (called m (Outcome h)).0 ≡ Pending → PendingRight h ts
  pends_right h q =
      let c = carried m (Outcome h) Pending q tt in
      let a = awaited_right h c.0 in
      grind arith

  pages_right : (v room : ℕ) (ws : List ℕ) → (called m (Page v room)).0 ≡ Wrote ws → WritesRight m.sites ms ws
  pages_right v room ws q =
      let c = carried m (Page v room) (Wrote ws) q tt in
      let t = λ (k : ℕ). passed (table m (Page v room)) k c.0 in
      let said = c.1 in
      let same : page_words (page_at m.log v) ≡ ws = cc in
      rw same at (log_writes s.log s.group (whole_log m.mode m.log.whole s.mode (t 1) (t 2)) v)

  pub turn_right : (c : Call) → Supposed ms ts (a_turn m.number c (called m c).0) → TurnRight m.sites ms (a_turn m.number c (called m c).0) ts
  turn_right c g = record {
    reads = λ h x o p q. reads_right h x o (at p ∙ q);
    looks = λ x o p q. looks_right x o (at p ∙ q);
    decides = λ k ws d p q. decides_right k ws d (at p ∙ q) (g.delivers k ws d p q);
    tells = λ h d p q. tells_right h d (at p ∙ q);
    pends = λ h p q. pends_right h (at p ∙ q);
    pages = λ v room ws p q. pages_right v room ws (at p ∙ q);
  }
    where
      at : {b : Call} → c ≡ b → (called m b).0 ≡ (called m c).0
      at p = ap (λ x. (called m x).0) (sym p)
