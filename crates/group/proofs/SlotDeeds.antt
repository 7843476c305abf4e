-- The turns that say something of a handle: a draft begins, writes or is posted, and words are delivered.
use Rattle.std.proofs.Common.{◌≡◌, ℕ, ◌+◌, ◌<◌, ◌≤◌, Bool, true, false, cond, eqb, List, [], ◌∷◌, map, length, set, Some, sym, refl, ap, ◌∙◌, arith}
use Rattle.std.specs.Str.{bytes_eq}
use Rattle.std.proofs.lemmas.Slice.Eq.{bytes_eq-Decides}
use Rattle.std.proofs.lemmas.Bool.{ne_eqb, cond-false}
use Rattle.std.proofs.lemmas.Bool.Decides.{nat_tests}
use Rattle.words.specs.declared.changes.Write.{Write}
use Rattle.words.specs.Bits.{is_group}
use Rattle.words.specs.Writes.{write_fits}
use Rattle.words.specs.Messages.{an_edit, message_of}
use Rattle.words.proofs.MessageSpelling.{message_spelling}
use Rattle.account.specs.declared.decisions.Decision.{Decision}
use Rattle.account.specs.Account.{Committed}
use Rattle.site.specs.declared.handles.Handle.{Handle}
use Rattle.site.specs.Handles.{a_handle}
use Rattle.site.specs.Edits.{EditModel, an_edit_of, own_change, with_write, rewritten, has_room}
use Rattle.site.specs.Spelling.{own_words}
use Rattle.site.specs.Slots.{SlotModel, empty, opened, posted, decided, settled}
use Rattle.site.specs.Calls.{Begin, Put, Post, Deliver, Drafted, Done, Sent, Told}
use Rattle.site.proofs.EditWrites.{fit_with}
use Rattle.site.proofs.Spelt.{valid_edit}
use Rattle.group.specs.Record.{Turn, a_turn}
use Rattle.group.specs.Law.{ToldRight}
use Rattle.group.proofs.Tables.{map_each}
use Rattle.group.proofs.SlotsRight.{Live, SlotRight, SlotsRight, slots_about}

-- a draft's own change after one more write
own_with : (l : List Write) (w : Write) (x : ℕ) → own_change (with_write l w) x ≡ cond (eqb w.item x) (Some w.change) (own_change l x)
own_with [] w x = refl
own_with (y ∷ l) w x = let rest = own_with l w x in grind (arith, nat_tests)

module _ {n : ℕ} {cs : List Committed} {i : ℕ} {ts : List Turn} {tickets low v : ℕ} {ss : List SlotModel} (r : SlotsRight n cs i ts tickets low v ss) where
  pub slots_begun : (j : ℕ) → low ≤ v →
      SlotsRight n cs i (a_turn i Begin (Drafted (a_handle i j (tickets + 1))) ∷ ts) (tickets + 1) low v (set ss j (opened (an_edit_of (tickets + 1) v [])))
  slots_begun j l =
      let h : Handle = a_handle i j (tickets + 1) in
      let t : Turn = a_turn i Begin (Drafted h) in
      let u = r.unheard h refl (omega arith) in
      slots_about r h t (tickets + 1) (opened (an_edit_of (tickets + 1) v [])) refl (omega arith) (omega arith) (grind (arith, nat_tests))

  -- a draft of slot j
  module _ (j : ℕ) (e : EditModel) (a : SlotRight n cs i ts tickets low v j (opened e)) where
    abbrev pub here : Handle
    here = a_handle i j e.ticket

    pub slots_put : (w : Write) → write_fits 0 w ≡ true → has_room e w ≡ true →
        SlotsRight n cs i (a_turn i (Put here w) Done ∷ ts) tickets low v (set ss j (opened (rewritten e w)))
    slots_put w f g =
        let t : Turn = a_turn i (Put here w) Done in
        let fits = fit_with 0 e.writes w a.0.fits (omega arith) f in
        slots_about r here t tickets (opened (rewritten e w)) refl (omega arith) a.0.given (grind (arith, nat_tests, own_with e.writes w))

    pub slots_posted : (room : ℕ) → 0 < length e.writes →
        SlotsRight n cs i (a_turn i (Post here room) (Sent here (own_words i e)) ∷ ts) tickets low v (set ss j (posted e))
    slots_posted room some =
        let t : Turn = a_turn i (Post here room) (Sent here (own_words i e)) in
        slots_about r here t tickets (posted e) refl (omega arith) a.0.given (grind (arith, nat_tests))

-- the words of a posted edit are read as that edit
own_reads : {h : Handle} {ts : List Turn} {tickets low v : ℕ} {e : EditModel} (n i : ℕ) → is_group n ≡ true → i < n → tickets ≤ 268435455 → v ≤ 268435455 →
    Live h ts tickets low v e → 0 < length e.writes → message_of n (own_words i e) ≡ Some (an_edit i e.ticket e.snapshot e.writes)
own_reads {e = e} n i g o a b l some =
    (message_spelling n (own_words i e) (an_edit i e.ticket e.snapshot e.writes)).1
    (cond-false _ _ _ (ne_eqb (length e.writes) 0 (λ q. omega arith)))
    (valid_edit n i e.ticket e.snapshot e.writes g o l.first (omega (arith, l.given)) (omega (arith, l.to)) some l.few l.fits)

-- A delivery of words that are decided as d.
module _ {n : ℕ} {cs : List Committed} {i : ℕ} {ts : List Turn} {tickets low v : ℕ} {ss : List SlotModel} (r : SlotsRight n cs i ts tickets low v ss)
    (group : is_group n ≡ true) (mine : i < n) (few : tickets ≤ 268435455) (bound : v ≤ 268435455)
    (p : ℕ) (ws : List ℕ) (d : Decision) (right : (h t s : ℕ) (l : List Write) → message_of n ws ≡ Some (an_edit h t s l) → ToldRight cs h t s l d) where
  abbrev turn : Turn
  turn = a_turn i (Deliver p ws) (Told d)

  module _ (k : ℕ) (e : EditModel) (a : SlotRight n cs i ts tickets low v k (posted e)) where
    settled_by : (b : Bool) → bytes_eq (own_words i e) ws ≡ b → SlotRight n cs i (turn ∷ ts) tickets low v k (cond b (decided e.ticket d) (posted e))
    settled_by true q =
        let same : own_words i e ≡ ws = (bytes_eq-Decides (own_words i e) ws).0 q in
        let reads = own_reads n i group mine few bound a.0 a.2 in
        let told = right i e.ticket e.snapshot e.writes (ap (message_of n) (sym same) ∙ reads) in
        grind (arith, nat_tests)
    settled_by false q = grind (arith, nat_tests)

  settled_slot : (k : ℕ) (s : SlotModel) → SlotRight n cs i ts tickets low v k s → SlotRight n cs i (turn ∷ ts) tickets low v k (settled i ws d s)
  settled_slot k (posted e) a = settled_by k e a (bytes_eq (own_words i e) ws) refl
  settled_slot k empty a = tt
  settled_slot k s a = grind (arith, nat_tests)

  pub slots_settled : SlotsRight n cs i (a_turn i (Deliver p ws) (Told d) ∷ ts) tickets low v (map (settled i ws d) ss)
  slots_settled = record {
    each = map_each (SlotRight n cs i (turn ∷ ts) tickets low v) (settled i ws d) ss (λ k s e. settled_slot k s (r.each k s e));
    count = grind (arith, nat_tests);
    unheard = λ h e l. let u = r.unheard h e l in grind (arith, nat_tests);
  }
