-- An item put into the items that stand at the front of some memory.
use Rattle.std.proofs.Common.{◌≡◌, ℕ, suc, min, ◌+◌, ◌-◌, ◌<◌, ◌≤◌, ◌⊎◌, inl, inr, List, ◌∷◌, ◌++◌, length, take, drop, set, sym, ap, ◌∙◌, arith, length-drop, length-append}
use Rattle.std.specs.List.{insert, copy_within}
use lib.Seq.{take-set-lt, drop-append_seam}
use Rattle.std.proofs.lemmas.List.{take_all, drop_all, length-take-le, take-take, drop-take, take-append-le, set_split}
use Rattle.std.proofs.lemmas.Bool.{cases_lt}
use Rattle.std.proofs.lemmas.List.Edits.{take-paste}

-- The items from the place on stand one further, and the item stands at the place.
pub insert_front : {X : Type 0} (l : List X) (at n : ℕ) (x : X) → at ≤ n → n < length l →
    take (n + 1) (set (copy_within l at n (at + 1)) at x) ≡ insert (take n l) at x
insert_front {X = X} l at n x h k =
    let p = copy_within l at n (at + 1) in
    let a = take (at + 1) l in
    let b = take (n - at) (drop at l) in
    let up : at + 1 + (n - at) ≡ n + 1 = omega arith in
    let back : at + (n - at) ≡ n = omega arith in
    let long : length a ≡ at + 1 = length-take-le (at + 1) l (omega arith) in
    let front : take (n + 1) p ≡ a ++ b =
    ap (λ m. take m p) (sym up) ∙ take-paste l (at + 1) (drop at l) (n - at) (omega arith) (omega (arith, length-drop at l)) in
    let before : take at (a ++ b) ≡ take at (take n l) =
    take-append-le at a b (omega arith) ∙ take-take at (at + 1) l (omega arith) ∙ sym (take-take at n l h) in
    let end : suc at ≡ length a = omega arith in
    let after : drop (suc at) (a ++ b) ≡ drop at (take n l) =
    ap (λ m. drop m (a ++ b)) end ∙ drop-append_seam a b ∙ sym (drop-take at (n - at) l) ∙ ap (λ m. drop at (take m l)) back in
    take-set-lt (n + 1) p at x (omega arith)
    ∙ ap (λ v. set v at x) front
    ∙ set_split (a ++ b) at x (omega (arith, length-append a b))
    ∙ ap (λ v. v ++ x ∷ drop (suc at) (a ++ b)) before
    ∙ ap (λ v. take at (take n l) ++ x ∷ v) after

-- A place past the end is the end.
pub insert_past : {X : Type 0} (l : List X) (i : ℕ) (x : X) → length l ≤ i → insert l (length l) x ≡ insert l i x
insert_past l i x h =
    ap (λ v. v ++ x ∷ drop (length l) l) (take_all (length l) l (omega arith) ∙ sym (take_all i l h))
    ∙ ap (λ v. take i l ++ x ∷ v) (drop_all (length l) l (omega arith) ∙ sym (drop_all i l h))

-- What is left after an item was put in at a place, or at the end where the place is past it.
pub insert_there : {X : Type 0} (l : List X) (place at n m : ℕ) (x : X) → at ≡ min place n → n < length l → m ≡ n + 1 →
    take m (set (copy_within l at n (at + 1)) at x) ≡ insert (take n l) place x
insert_there {X = X} l place at n m x e k f =
    let e1 : place < n → at ≡ place = λ h. omega arith in
    let e2 : n ≤ place → at ≡ length (take n l) = λ h. omega (arith, length-take-le n l (omega arith)) in
    let e3 : n ≤ place → length (take n l) ≤ place = λ h. omega (arith, length-take-le n l (omega arith)) in
    let there : ((place < n) ⊎ (n ≤ place)) → insert (take n l) at x ≡ insert (take n l) place x = elim [
      | inl h ↦ ap (λ j. insert (take n l) j x) (e1 h)
      | inr h ↦ ap (λ j. insert (take n l) j x) (e2 h) ∙ insert_past (take n l) place x (e3 h)
    ] in
    ap (λ j. take j (set (copy_within l at n (at + 1)) at x)) f
    ∙ insert_front l at n x (omega arith) k
    ∙ there (cases_lt place n)
