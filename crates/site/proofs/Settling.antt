-- Slots settled one after another.
use Rattle.std.proofs.Common.{◌≡◌, ℕ, zero, suc, ◌+◌, ◌<◌, ◌≤◌, Bool, true, false, cond, List, [], ◌∷◌, map, length, set, Some, None, Option, sym, refl, ap, ◌∙◌, add-one, arith}
use Rattle.std.specs.List.{slice_get}
use Rattle.std.specs.Str.{bytes_eq}
use Rattle.account.specs.declared.decisions.Decision.{Decision}
use Rattle.site.specs.Edits.{EditModel}
use Rattle.site.specs.Spelling.{own_words}
use Rattle.site.specs.Slots.{SlotModel, empty, opened, posted, decided, settled, own_ticket}

-- the first n changed, the rest as they were
abbrev pub changed_up_to : (SlotModel → SlotModel) → ℕ → List SlotModel → List SlotModel
changed_up_to f zero ss = ss
changed_up_to f (suc n) [] = []
changed_up_to f (suc n) (s ∷ ss) = f s ∷ changed_up_to f n ss

module _ (f : SlotModel → SlotModel) where
  pub all_changed : (n : ℕ) (ss : List SlotModel) → length ss ≤ n → changed_up_to f n ss ≡ map f ss
  all_changed zero [] h = refl
  all_changed zero (s ∷ ss) h = absurd (omega arith)
  all_changed (suc n) [] h = refl
  all_changed (suc n) (s ∷ ss) h = ap (λ l. f s ∷ l) (all_changed n ss (omega arith))

  pub next_unchanged : (n : ℕ) (ss : List SlotModel) → slice_get (changed_up_to f n ss) n ≡ slice_get ss n
  next_unchanged zero ss = refl
  next_unchanged (suc n) [] = refl
  next_unchanged (suc n) (s ∷ ss) = next_unchanged n ss

  change_next : (n : ℕ) (ss : List SlotModel) (s t : SlotModel) → slice_get ss n ≡ Some s → f s ≡ t → set (changed_up_to f n ss) n t ≡ changed_up_to f (suc n) ss
  change_next n [] s t h e = absurd (let z : ◌≡◌ {A = ℕ} 0 1 = cc in omega arith)
  change_next zero (x ∷ ss) s t h e = let q : x ≡ s = cc in ap (λ y. y ∷ ss) (sym e ∙ ap f (sym q))
  change_next (suc n) (x ∷ ss) s t h e = ap (λ l. f x ∷ l) (change_next n ss s t h e)

  leave_next : (n : ℕ) (ss : List SlotModel) (s : SlotModel) → slice_get ss n ≡ Some s → f s ≡ s → changed_up_to f n ss ≡ changed_up_to f (suc n) ss
  leave_next n [] s h e = absurd (let z : ◌≡◌ {A = ℕ} 0 1 = cc in omega arith)
  leave_next zero (x ∷ ss) s h e = let q : x ≡ s = cc in ap (λ y. y ∷ ss) (q ∙ sym e ∙ ap f (sym q))
  leave_next (suc n) (x ∷ ss) s h e = ap (λ l. f x ∷ l) (leave_next n ss s h e)

module _ (i : ℕ) (ws : List ℕ) (d : Decision) where
  on_by : (b : Bool) (e : EditModel) (t : ℕ) → cond b (Some e.ticket) None ≡ Some t → cond b (decided e.ticket d) (posted e) ≡ decided t d
  on_by true e t h = let q : e.ticket ≡ t = cc in ap (λ n. decided n d) q
  on_by false e t h = absurd (let z : ◌≡◌ {A = ℕ} 0 1 = cc in omega arith)

  off_by : (b : Bool) (e : EditModel) → cond b (Some e.ticket) None ≡ None → cond b (decided e.ticket d) (posted e) ≡ posted e
  off_by true e h = absurd (let z : ◌≡◌ {A = ℕ} 0 1 = cc in omega arith)
  off_by false e h = refl

  settle_on : (s : SlotModel) (t : ℕ) → own_ticket i ws (Some s) ≡ Some t → settled i ws d s ≡ decided t d
  settle_on empty t h = absurd (let z : ◌≡◌ {A = ℕ} 0 1 = cc in omega arith)
  settle_on (opened e) t h = absurd (let z : ◌≡◌ {A = ℕ} 0 1 = cc in omega arith)
  settle_on (posted e) t h = on_by (bytes_eq (own_words i e) ws) e t h
  settle_on (decided u x) t h = absurd (let z : ◌≡◌ {A = ℕ} 0 1 = cc in omega arith)

  settle_off : (s : SlotModel) → own_ticket i ws (Some s) ≡ None → settled i ws d s ≡ s
  settle_off empty h = refl
  settle_off (opened e) h = refl
  settle_off (posted e) h = off_by (bytes_eq (own_words i e) ws) e h
  settle_off (decided u x) h = refl

  -- one slot more, by what is found in it
  module _ (n : ℕ) (ss : List SlotModel) where
    found_by : (o : Option SlotModel) (t : ℕ) → slice_get ss n ≡ o → own_ticket i ws o ≡ Some t →
        set (changed_up_to (settled i ws d) n ss) n (decided t d) ≡ changed_up_to (settled i ws d) (n + 1) ss
    found_by None t at h = absurd (let z : ◌≡◌ {A = ℕ} 0 1 = cc in omega arith)
    found_by (Some s) t at h =
        change_next (settled i ws d) n ss s (decided t d) at (settle_on s t h) ∙ ap (λ k. changed_up_to (settled i ws d) k ss) (sym (add-one n))

    pub settle_found : (t : ℕ) → own_ticket i ws (slice_get (changed_up_to (settled i ws d) n ss) n) ≡ Some t →
        set (changed_up_to (settled i ws d) n ss) n (decided t d) ≡ changed_up_to (settled i ws d) (n + 1) ss
    settle_found t h = found_by (slice_get ss n) t refl (ap (own_ticket i ws) (sym (next_unchanged (settled i ws d) n ss)) ∙ h)

    rest_by : (o : Option SlotModel) → n < length ss → slice_get ss n ≡ o → own_ticket i ws o ≡ None →
        changed_up_to (settled i ws d) n ss ≡ changed_up_to (settled i ws d) (n + 1) ss
    rest_by None within at h = absurd (not_past ss n within at)
      where
        not_past : (l : List SlotModel) (k : ℕ) → k < length l → slice_get l k ≡ None → ⊥
        not_past [] k lt e = omega arith
        not_past (x ∷ l) zero lt e = (let z : ◌≡◌ {A = ℕ} 0 1 = cc in omega arith)
        not_past (x ∷ l) (suc k) lt e = not_past l k (omega arith) e
    rest_by (Some s) within at h =
        leave_next (settled i ws d) n ss s at (settle_off s h) ∙ ap (λ k. changed_up_to (settled i ws d) k ss) (sym (add-one n))

    pub settle_rest : n < length ss → own_ticket i ws (slice_get (changed_up_to (settled i ws d) n ss) n) ≡ None →
        changed_up_to (settled i ws d) n ss ≡ changed_up_to (settled i ws d) (n + 1) ss
    settle_rest within h = rest_by (slice_get ss n) within refl (ap (own_ticket i ws) (sym (next_unchanged (settled i ws d) n ss)) ∙ h)
