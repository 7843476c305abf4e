-- Drafts and posted edits: begin, put, post, give up, outcome and let go leave a sound site.
use Rattle.std.proofs.Common.{◌≡◌, ℕ, ◌+◌, ◌<◌, ◌≤◌, Bool, true, false, cond, eqb, List, ◌∷◌, length, set, is_some, Some, None, Option, sym, refl, subst, arith}
use Rattle.std.proofs.lemmas.Bool.{not-false, leb-false}
use Rattle.std.proofs.lemmas.Bool.Decides.{nat_tests}
use Rattle.logs.specs.LogModel.{ticketed}
use Rattle.words.specs.declared.changes.Write.{Write}
use Rattle.words.specs.Writes.{write_fits}
use Rattle.account.specs.declared.decisions.Decision.{Decision}
use Rattle.account.specs.Account.{commits_of}
use Rattle.site.specs.declared.handles.Handle.{Handle}
use Rattle.site.specs.Edits.{EditModel, rewritten}
use Rattle.site.specs.Slots.{empty, opened, posted, lowest_empty}
use Rattle.site.specs.Spelling.{own_words}
use Rattle.site.specs.SiteModel.{SiteModel, with_slot}
use Rattle.site.specs.Calls.{first, Call, Begin, Put, Post, GiveUp, Outcome, LetGo, Answer, Done, ReadOnly, Sent, drafted, awaited, fits_edit, edit_or, sent, slot_sent, outcome_of, after_outcome, or_zero, table, answered, left}
use Rattle.group.specs.Record.{Turn, a_turn, nothing, deed_of}
use Rattle.group.proofs.LogSound.{log_tickets}
use Rattle.group.proofs.Tables.{HoldsEdit, draft_slot}
use Rattle.group.proofs.SlotsRight.{SlotRight, SlotsRight, slot_emptied}
use Rattle.group.proofs.SlotDeeds.{slots_begun, slots_put, slots_posted}
use Rattle.group.proofs.Refusals.{passed, the_draft}
use Rattle.group.proofs.SiteSound.{Fits, Sound, sound_slots, slots_quiet, sound_quiet}

module _ {ms : List (List ℕ)} {ts : List Turn} {m : SiteModel} (s : Sound ms ts m) where
  pub begin_kept : first (table m Begin) ≡ None → Sound ms (a_turn m.number Begin (answered m Begin) ∷ ts) (left m Begin)
  begin_kept f =
      let few : m.log.tickets < 268435455 = leb-false 268435455 m.log.tickets (passed (table m Begin) 5 f) in
      let more : (ticketed m.log).tickets ≡ m.log.tickets + 1 = grind (arith, nat_tests) in
      let same : (ticketed m.log).whole ≡ m.log.whole = grind (arith, nat_tests) in
      let mode = subst (Fits m.mode) (sym same) s.mode in
      let slots = subst
      (λ k. SlotsRight m.sites (commits_of m.sites ms) m.number (a_turn m.number Begin (answered m Begin) ∷ ts) k s.low
      m.store.version (left m Begin).slots) (sym more) (slots_begun s.slots (or_zero (lowest_empty m.slots)) s.store.within) in
      let given : (left m Begin).log.tickets ≤ 268435455 = omega (arith, more) in
      search (log_tickets s.log)

  -- a turn that does nothing, with a slot emptied
  quiet_emptied : (c : Call) (a : Answer) (j : ℕ) → deed_of a c ≡ nothing → Sound ms (a_turn m.number c a ∷ ts) (with_slot m j empty)
  quiet_emptied c a j e = sound_slots s _ (set m.slots j empty) (slot_emptied (slots_quiet s c a e) j)

  -- an open draft, by its handle
  module _ (h : Handle) (e : EditModel) (d : drafted m h ≡ Some e) where
    found : HoldsEdit m h (opened e) e.ticket
    found = draft_slot m h e d

    pub draft_right : SlotRight m.sites (commits_of m.sites ms) m.number ts m.log.tickets s.low m.store.version h.slot (opened e)
    draft_right = s.slots.each h.slot (opened e) found.there

    put_found : (w : Write) → write_fits 0 w ≡ true → fits_edit (drafted m h) w ≡ true →
        Sound ms (a_turn m.number (Put h w) Done ∷ ts) (with_slot m h.slot (opened (rewritten (edit_or (drafted m h)) w)))
    put_found w f g =
        rw d (sound_slots s _ (set m.slots h.slot (opened (rewritten e w)))
        (rw found.handle (slots_put s.slots h.slot e draft_right w f (rw d at g))))

    post_by : (room : ℕ) (b : Bool) → eqb (length e.writes) 0 ≡ b →
        Sound ms (a_turn m.number (Post h room) (cond b ReadOnly (Sent h (own_words m.number e))) ∷ ts) (with_slot m h.slot (cond b empty (posted e)))
    post_by room true q = quiet_emptied (Post h room) ReadOnly h.slot refl
    post_by room false q =
        sound_slots s _ (set m.slots h.slot (posted e))
        (rw found.handle (slots_posted s.slots h.slot e draft_right room (grind (arith, nat_tests))))

    post_found : (room : ℕ) →
        Sound ms (a_turn m.number (Post h room) (sent m h (edit_or (drafted m h))) ∷ ts) (with_slot m h.slot (slot_sent (edit_or (drafted m h))))
    post_found room =
        rw d (post_by room (eqb (length e.writes) 0) refl)

  pub put_kept : (h : Handle) (w : Write) → first (table m (Put h w)) ≡ None →
      Sound ms (a_turn m.number (Put h w) (answered m (Put h w)) ∷ ts) (left m (Put h w))
  put_kept h w f =
      let d = the_draft m (Put h w) h f refl in
      put_found h d.0 d.1 w (not-false _ (passed (table m (Put h w)) 8 f)) (not-false _ (passed (table m (Put h w)) 9 f))

  pub post_kept : (h : Handle) (room : ℕ) → first (table m (Post h room)) ≡ None →
      Sound ms (a_turn m.number (Post h room) (answered m (Post h room)) ∷ ts) (left m (Post h room))
  post_kept h room f = let d = the_draft m (Post h room) h f refl in post_found h d.0 d.1 room

  -- a slot emptied where a test holds
  emptied_where : (c : Call) (h : Handle) (b : Bool) → deed_of Done c ≡ nothing →
      Sound ms (a_turn m.number c Done ∷ ts) (cond b (with_slot m h.slot empty) m)
  emptied_where c h true e = quiet_emptied c Done h.slot e
  emptied_where c h false e = sound_quiet s c Done e

  pub give_up_kept : (h : Handle) → Sound ms (a_turn m.number (GiveUp h) Done ∷ ts) (left m (GiveUp h))
  give_up_kept h = emptied_where (GiveUp h) h (is_some (drafted m h)) refl

  pub let_go_kept : (h : Handle) → Sound ms (a_turn m.number (LetGo h) Done ∷ ts) (left m (LetGo h))
  let_go_kept h = emptied_where (LetGo h) h (awaited m h) refl

  pub outcome_kept : (h : Handle) (o : Option Decision) → Sound ms (a_turn m.number (Outcome h) (outcome_of o) ∷ ts) (after_outcome m h o)
  outcome_kept h None = sound_quiet s (Outcome h) (outcome_of None) refl
  outcome_kept h (Some d) = quiet_emptied (Outcome h) (outcome_of (Some d)) h.slot refl
