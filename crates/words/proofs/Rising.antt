-- Writes of which the first is in range, and each next one is in range with a greater item, are in range by rising item.
use Rattle.std.proofs.Common.{◌≡◌, ℕ, zero, suc, ◌+◌, ◌<◌, Bool, true, false, ◌&&◌, ltb, leb, Some, List, [], ◌∷◌, length, slice_get, sym, refl, ap, ◌∙◌, arith}
use Rattle.std.specs.List.{IsAllAdjacentAnswer, AllAdjacentBelow, slice_index_or}
use Rattle.std.proofs.lemmas.Option.{none-some, get_or_from_slice_get}
use Rattle.std.proofs.lemmas.Bool.{le-leb, and_from, and_left, and_right}
use Rattle.words.specs.declared.changes.Write.{Write}
use Rattle.words.specs.Writes.{change_fits, write_fits, fit_from}

-- Whether a write may come next.
abbrev pub follows : Write → Write → Bool
follows w v = ltb w.item v.item && write_fits 0 v

abbrev in_order : List Write → Bool
in_order [] = true
in_order (w ∷ []) = true
in_order (w ∷ (v ∷ l)) = follows w v && in_order (v ∷ l)

-- what each write and the next are answered
abbrev Rises : Write → Write → Bool → Type 0
Rises w v b = b ≡ follows w v

-- a place after the next, one write on
shift : (w : Write) (l : List Write) (k : ℕ) (d : Write) → slice_index_or (w ∷ l) (suc k + 1) d ≡ slice_index_or l (k + 1) d
shift w l k d = let e : suc k + 1 ≡ suc (k + 1) = omega arith in ap (λ i. slice_index_or (w ∷ l) i d) e

each : (l : List Write) → AllAdjacentBelow (λ w v. Rises w v true) l (length l) → true ≡ in_order l
each [] h = refl
each (w ∷ []) h = refl
each (w ∷ (v ∷ l)) h =
    let first : true ≡ follows w v = h 0 w (omega arith) in
    let rest = each (v ∷ l) (λ k d p. h (suc k) d (omega arith) ∙ ap (λ x. follows (slice_index_or (v ∷ l) k d) x) (shift w (v ∷ l) k d)) in
    sym (and_from (follows w v) (in_order (v ∷ l)) (sym first) (sym rest))

one : (l : List Write) (k : ℕ) → k + 1 < length l → ((d : Write) → Rises (slice_index_or l k d) (slice_index_or l (k + 1) d) false) → false ≡ in_order l
one [] k p h = absurd (omega arith)
one (w ∷ []) k p h = absurd (omega arith)
one (w ∷ (v ∷ l)) zero p h =
    let first : false ≡ follows w v = h w in
    sym (and_left (follows w v) (in_order (v ∷ l)) (sym first))
one (w ∷ (v ∷ l)) (suc k) p h =
    let rest = one (v ∷ l) k (omega arith) (λ d. h d ∙ ap (λ x. follows (slice_index_or (v ∷ l) k d) x) (shift w (v ∷ l) k d)) in
    sym (and_right (follows w v) (in_order (v ∷ l)) (sym rest))

answered : (l : List Write) (r : Bool) → IsAllAdjacentAnswer Rises l r → r ≡ in_order l
answered l true h = each l h
answered l false h = one l h.0 h.1 h.2

parted : (low : ℕ) (w : Write) (l : List Write) → fit_from low (w ∷ l) ≡ (write_fits low w && in_order (w ∷ l))
parted low w [] = refl
parted low w (v ∷ l) =
    let z : leb 0 v.item ≡ true = le-leb 0 v.item (omega arith) in
    ap (λ b. write_fits low w && b)
    (parted (suc w.item) v l
    ∙ ap (λ b. (ltb w.item v.item && (b && (ltb v.item 268435456 && change_fits v.change))) && in_order (v ∷ l)) (sym z))

pub rising_from_sorted : (l : List Write) (w : Write) (r : Bool) → slice_get l 0 ≡ Some w → write_fits 0 w ≡ true →
    IsAllAdjacentAnswer (λ w v b. b ≡ follows w v) l r → r ≡ fit_from 0 l
rising_from_sorted [] w r e f h = absurd (none-some w e)
rising_from_sorted (v ∷ l) w r e f h =
    let fits : write_fits 0 v ≡ true = ap (write_fits 0) (get_or_from_slice_get (v ∷ l) 0 w w e) ∙ f in
    answered (v ∷ l) r h ∙ ap (λ b. b && in_order (v ∷ l)) (sym fits) ∙ sym (parted 0 v l)
