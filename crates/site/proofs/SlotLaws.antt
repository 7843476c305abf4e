-- The slots of a table, by what they hold.
use Rattle.std.proofs.Common.{◌≡◌, ℕ, suc, ◌+◌, ◌<◌, ◌≤◌, min, Bool, cond, ltb, ◌&&◌, List, [], ◌∷◌, map, length, get_or, drop, Some, None, sym, refl, ap, ◌∙◌, arith}
use Rattle.std.proofs.lemmas.List.{at_drop_more, at_drop_all, get_or-map, length-map}
use Rattle.std.proofs.lemmas.Bool.{lt-ltb}
use Rattle.std.proofs.lemmas.Bool.Decides.{nat_tests}
use Rattle.std.specs.List.{slice_get, list_all, position_or_len}
use Rattle.std.proofs.lemmas.Option.{slice_get-get_or}
use Rattle.site.specs.declared.edits.Edit.{Edit}
use Rattle.site.specs.declared.slots.Slot.{Slot}
use Rattle.site.specs.declared.slots.Slot.TheVariants.{Empty, Open, Posted, Decided}
use Rattle.site.specs.Slots.{SlotModel, empty, opened, posted, decided, slot_model, is_empty, empty_from, lowest_empty, all_empty, least_needed}

-- whether a slot is empty, in the library's words for all slots and for the first
abbrev pub is_free : Slot → Bool
is_free s = is_empty (slot_model s)

pub all_free : (xs : List Slot) → list_all is_free xs ≡ all_empty (map slot_model xs)
all_free [] = refl
all_free (x ∷ xs) = ap (λ b. is_free x && b) (all_free xs)

one_on : (i k n : ℕ) → cond (ltb k n) (Some (suc i + k)) None ≡ cond (ltb (1 + k) (suc n)) (Some (i + (1 + k))) None
one_on i k n = grind (arith, nat_tests)

free_from : (i : ℕ) (xs : List Slot) → cond (ltb (position_or_len is_free xs) (length xs)) (Some (i + position_or_len is_free xs)) None ≡ empty_from i (map slot_model xs)
free_from i [] = refl
free_from i (Empty ∷ xs) = ap (λ b. cond b (Some (i + 0)) None) (lt-ltb 0 (suc (length xs)) (omega arith)) ∙ ap Some (omega arith)
free_from i (Open e ∷ xs) = sym (one_on i (position_or_len is_free xs) (length xs)) ∙ free_from (suc i) xs
free_from i (Posted e ∷ xs) = sym (one_on i (position_or_len is_free xs) (length xs)) ∙ free_from (suc i) xs
free_from i (Decided t d ∷ xs) = sym (one_on i (position_or_len is_free xs) (length xs)) ∙ free_from (suc i) xs

pub first_free : (xs : List Slot) → cond (ltb (position_or_len is_free xs) (length xs)) (Some (position_or_len is_free xs)) None ≡ lowest_empty (map slot_model xs)
first_free xs = ap (λ k. cond (ltb (position_or_len is_free xs) (length xs)) (Some k) None) (omega arith) ∙ free_from 0 xs

-- a slot of the table
pub slot_at : (xs : List Slot) (i : ℕ) (s : Slot) → i < length xs → s ≡ get_or xs i s → slice_get (map slot_model xs) i ≡ Some (slot_model s)
slot_at xs i s within e =
    slice_get-get_or (map slot_model xs) i (slot_model s) (rw length-map within) ∙ ap Some (get_or-map slot_model xs i s (slot_model s) within) ∙ ap (λ x. Some (slot_model x)) (sym e)

-- the least version that is needed, one slot after another
abbrev pub needed_after : ℕ → Slot → ℕ
needed_after v Empty = v
needed_after v (Open e) = min v e.snapshot
needed_after v (Posted e) = min v e.snapshot
needed_after v (Decided t d) = v

pub needed_rest : (v : ℕ) (s : Slot) → ((e : Edit) → s ≡ Open e → ⊥) → ((e : Edit) → s ≡ Posted e → ⊥) → v ≡ needed_after v s
needed_rest v Empty o p = refl
needed_rest v (Open e) o p = absurd (o e refl)
needed_rest v (Posted e) o p = absurd (p e refl)
needed_rest v (Decided t d) o p = refl

needed_step : (v : ℕ) (s : Slot) (ss : List SlotModel) → least_needed v (slot_model s ∷ ss) ≡ least_needed (needed_after v s) ss
needed_step v Empty ss = refl
needed_step v (Open e) ss = refl
needed_step v (Posted e) ss = refl
needed_step v (Decided t d) ss = refl

pub needed_more : (xs : List Slot) (i : ℕ) (d : Slot) (v less : ℕ) → i < length xs → less ≡ needed_after v (get_or xs i d) →
    least_needed less (drop (i + 1) (map slot_model xs)) ≡ least_needed v (drop i (map slot_model xs))
needed_more xs i d v less within e =
    ap (λ n. least_needed n (drop (i + 1) (map slot_model xs))) e
    ∙ sym (at_drop_more (least_needed v) (map slot_model xs) i (slot_model d) (rw length-map within)
    ∙ ap (λ s. least_needed v (s ∷ drop (i + 1) (map slot_model xs))) (get_or-map slot_model xs i d (slot_model d) within)
    ∙ needed_step v (get_or xs i d) _)

pub needed_end : (xs : List Slot) (i v : ℕ) → length xs ≤ i → least_needed v (drop i (map slot_model xs)) ≡ v
needed_end xs i v past = at_drop_all (least_needed v) (map slot_model xs) i (rw length-map past)

-- no version beyond the site's own is needed
pub needed_within : (v : ℕ) (ss : List SlotModel) → least_needed v ss ≤ v
needed_within v [] = omega arith
needed_within v (empty ∷ ss) = needed_within v ss
needed_within v (opened e ∷ ss) = omega (arith, needed_within (min v e.snapshot) ss)
needed_within v (posted e ∷ ss) = omega (arith, needed_within (min v e.snapshot) ss)
needed_within v (decided t d ∷ ss) = needed_within v ss
