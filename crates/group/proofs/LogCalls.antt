-- Deliveries, pages, trims, prunes, crashes and wakings leave a sound site.
use Rattle.std.proofs.Common.{◌≡◌, ℕ, ◌+◌, ◌≤◌, min, true, List, ◌∷◌, map, Some, None, sym, refl, ap, ◌∙◌, subst, arith}
use Rattle.std.proofs.lemmas.Bool.{not-false}
use Rattle.std.proofs.lemmas.Bool.Decides.{nat_tests}
use Rattle.words.specs.Messages.{message_of}
use Rattle.words.specs.Pages.{PageValue, an_entry, a_closing, page_of}
use Rattle.account.specs.declared.decisions.Decision.{Decision}
use Rattle.account.specs.Account.{commits_of}
use Rattle.store.specs.StoreModel.{pruned_to}
use Rattle.store.proofs.LawProofs.{prune_law}
use Rattle.std.proofs.lemmas.List.{length-drop}
use Rattle.logs.specs.LogModel.{Entry, last_version, trimmed}
use Rattle.site.specs.Slots.{settled}
use Rattle.site.specs.Certify.{certified, log_after}
use Rattle.site.specs.CatchUp.{follows, has_room_for, log_taken, mode_taken, fails}
use Rattle.site.specs.SiteModel.{SiteModel, keep, horizon}
use Rattle.site.specs.Calls.{first, Deliver, Take, Trim, Prune, Crash, Wake, Done, Told, marked, table, answered, left}
use Rattle.site.proofs.SlotLaws.{needed_within}
use Rattle.group.specs.Record.{Turn, a_turn}
use Rattle.group.specs.Law.{at_place, DecidesRight, WritesRight}
use Rattle.group.proofs.LogForms.{after_on, after_whole, taken_on, closes, closed_is}
use Rattle.group.proofs.LogSound.{log_decides, log_delivers, log_trims, log_takes}
use Rattle.group.proofs.Tables.{needed_from, needed_above}
use Rattle.group.proofs.SlotsRight.{slots_emptied, slots_need, slots_from}
use Rattle.group.proofs.SlotDeeds.{slots_settled}
use Rattle.group.proofs.StoreRight.{store_pruned, change_pruned, store_dropped}
use Rattle.group.proofs.Refusals.{passed}
use Rattle.group.proofs.SiteSound.{Fits, whole_log, Sound, sound_slots, sound_log, sound_store, slots_quiet, sound_quiet}

module _ {ms : List (List ℕ)} {ts : List Turn} {m : SiteModel} (s : Sound ms ts m) where
  -- A delivery

  module _ (p : ℕ) (ws : List ℕ) (f : first (table m (Deliver p ws)) ≡ None) (given : at_place ms p ≡ Some ws) where
    abbrev decision : Decision
    decision = certified m.log (message_of m.sites ws)

    whole : m.log.whole ≡ true
    whole = whole_log m.mode m.log.whole s.mode (passed (table m (Deliver p ws)) 1 f) (passed (table m (Deliver p ws)) 2 f)

    next : (m.log.place + 1 ≡ p) × (p ≤ 268435455)
    next =
        let after = passed (table m (Deliver p ws)) 11 f in
        let within = passed (table m (Deliver p ws)) 12 f in
        grind (arith, nat_tests)

    there : at_place ms (m.log.place + 1) ≡ Some ws
    there = ap (at_place ms) next.0 ∙ given

    pub delivery_decides : DecidesRight m.sites ms p ws (certified m.log (message_of m.sites ws))
    delivery_decides = subst (λ k. DecidesRight m.sites ms k ws decision) next.0 (log_decides s.log whole ws there)

    pub deliver_kept : Sound ms (a_turn m.number (Deliver p ws) (answered m (Deliver p ws)) ∷ ts) (left m (Deliver p ws))
    deliver_kept =
        let l = m.log in
        let new = log_after l (message_of m.sites ws) in
        let on = after_on l (message_of m.sites ws) in
        let ss = map (settled m.number ws decision) m.slots in
        sound_log
        (sound_slots s (a_turn m.number (Deliver p ws) (Told decision) ∷ ts) ss
        (slots_settled s.slots s.group s.mine s.tickets (omega (arith, s.over, s.log.last_bound)) p ws decision delivery_decides.edit))
        new m.mode
        (log_delivers s.log whole ws there (omega (arith, next)) (passed (table m (Deliver p ws)) 13 f))
        on.tickets (omega (arith, on.floor, s.under)) on.last
        (rw after_whole s.mode)

  -- A page that was rightly written

  taken_fits : (ws : List ℕ) (p : PageValue) → page_of m.sites ws ≡ Some p → has_room_for m.log p ≡ true →
      Fits (mode_taken p) (log_taken m.log p).whole
  taken_fits ws (an_entry h v t l) e r = grind (arith, nat_tests)
  taken_fits ws (a_closing v d ks) e r = ap (λ k. k.whole) (closed_is m.sites d ks m.log s.log.size (closes m.sites v d ks ws e))

  pub take_kept : (ws : List ℕ) → first (table m (Take ws)) ≡ None → WritesRight m.sites ms ws →
      Sound ms (a_turn m.number (Take ws) Done ∷ ts) (left m (Take ws))
  take_kept ws f w =
      let p = w.page in
      let follow : follows m.log p ≡ true = not-false _ (ap (fails (follows m.log)) (sym w.reads) ∙ passed (table m (Take ws)) 17 f) in
      let room : has_room_for m.log p ≡ true = not-false _ (ap (fails (has_room_for m.log)) (sym w.reads) ∙ passed (table m (Take ws)) 13 f) in
      let on = taken_on m.log p in
      rw w.reads (sound_log (sound_quiet s (Take ws) Done refl) (log_taken m.log p) (mode_taken p)
      (log_takes s.log ws p w.reads w.right follow room) on.tickets (omega (arith, on.floor, s.under)) on.last
      (taken_fits ws p w.reads room))

  -- Upkeep

  pub trim_kept : Sound ms (a_turn m.number Trim Done ∷ ts) (left m Trim)
  trim_kept =
      let v : ℕ = min (horizon m) m.store.version in
      sound_log (sound_quiet s Trim Done refl) (trimmed m.log v) m.mode (log_trims s.log v (omega arith)) refl
      (omega (arith, s.under)) (omega (arith, length-drop {A = Entry})) s.mode

  pub prune_kept : Sound ms (a_turn m.number Prune Done ∷ ts) (left m Prune)
  prune_kept =
      let k : ℕ = keep m in
      let v : ℕ = m.store.version in
      let t : Turn = a_turn m.number Prune Done in
      let same = (prune_law m.store k).version in
      let up : k ≤ v = needed_within v m.slots in
      let down : s.low ≤ k = needed_above s.low v m.slots s.store.within (slots_need s.slots) in
      sound_store s (t ∷ ts) (pruned_to k m.store) m.change k (store_pruned s.store k down up)
      (change_pruned (commits_of m.sites ms) m.store k (last_version m.log) m.change s.change)
      (omega (arith, same, s.under)) (omega (arith, same, s.over))
      (rw same (slots_from (slots_quiet s Prune Done refl) k (needed_from v m.slots)))

  pub crash_kept : Sound ms (a_turn m.number Crash Done ∷ ts) (left m Crash)
  crash_kept =
      let store = store_dropped s.store in
      let slots = slots_emptied (slots_quiet s Crash Done refl) 8 in
      search

  pub wake_kept : Sound ms (a_turn m.number Wake (answered m Wake) ∷ ts) (left m Wake)
  wake_kept =
      sound_log (sound_quiet s Wake (answered m Wake) refl) m.log (marked m.log.whole) s.log refl s.under (omega arith) (grind arith)
