-- Values, changes and writes: their words, and back.
use Rattle.std.proofs.Common.{◌≡◌, ℕ, suc, ◌-◌, ◌^◌, ◌<◌, Bool, true, false, cond, eqb, ltb, leb, ◌⊎◌, List, [], ◌∷◌, ℤ, pos, negsuc, Some, None, Option, sym, refl, ap, ◌∙◌, inl, inr, arith}
use Rattle.std.proofs.lemmas.Bool.{eq-eqb, eqb-true, ltb-true, ltb-false, lt-ltb, le-ltb, and_parts, and_from}
use Rattle.words.specs.declared.changes.Change.{Change}
use Rattle.words.specs.declared.changes.Change.TheVariants.{Set, Remove}
use Rattle.words.specs.declared.changes.Write.{Write}
use Rattle.words.specs.Bits.{kind_of, load_of, word, value_of, value_load, value_fits}
use Rattle.words.specs.Writes.{change_of, a_write, write_of, consed, all_writes, and_then, leading, rising, change_word, writes_words, change_fits, write_fits, fit_from}
use Rattle.words.proofs.Fronts.{write_of_some, write_parts}

-- a load is the value's, and the value is in range
by_half : (l : ℕ) (b : Bool) → l < 2 ^ 28 → ltb l 134217728 ≡ b →
    (value_load (cond b (pos l) (negsuc (268435455 - l))) ≡ l) × (value_fits (cond b (pos l) (negsuc (268435455 - l))) ≡ true)
by_half l true h e = (refl, e)
by_half l false h e = let k = ltb-false l 134217728 e in (omega arith, lt-ltb (268435455 - l) 134217728 (omega arith))

value_back : (l : ℕ) → l < 2 ^ 28 → (value_load (value_of l) ≡ l) × (value_fits (value_of l) ≡ true)
value_back l h = by_half l (ltb l 134217728) h refl

load_back : (z : ℤ) → value_fits z ≡ true → (value_of (value_load z) ≡ z) × (value_load z < 2 ^ 28)
load_back (pos n) e = let k = ltb-true n 134217728 e in (simp e, omega arith)
load_back (negsuc n) e =
    let k = ltb-true n 134217728 e in
    let f : 268435455 - (268435455 - n) ≡ n = omega arith in
    (simp (le-ltb (268435455 - n) 134217728 (omega arith), f), omega arith)

-- a change's word, and back
from_change : (b d : Bool) (z : ℤ) (x : Change) → cond b (Some (Set z)) (cond d (Some Remove) None) ≡ Some x →
    ((b ≡ true) × (x ≡ Set z)) ⊎ ((d ≡ true) × (x ≡ Remove))
from_change true d z x p = inl (refl, (cc))
from_change false true z x p = inr (refl, (cc))
from_change false false z x p = absurd (let t : ◌≡◌ {A = ℕ} 0 1 = cc in omega arith)

is_set : (w : ℕ) (x : Change) → kind_of w ≡ 6 → x ≡ Set (value_of (load_of w)) → (w ≡ change_word x) × (change_fits x ≡ true)
is_set w x k e =
    let v = value_back (load_of w) (omega arith) in
    let f : w ≡ word 6 (value_load (value_of (load_of w))) = omega (arith, v.0) in
    rw e (f, v.1)

is_remove : (w : ℕ) (x : Change) → w ≡ word 7 0 → x ≡ Remove → (w ≡ change_word x) × (change_fits x ≡ true)
is_remove w x k e = rw e (k, refl)

change_back : (w : ℕ) (x : Change) → change_of w ≡ Some x → (w ≡ change_word x) × (change_fits x ≡ true)
change_back w x p =
    elim (from_change (eqb (kind_of w) 6) (eqb w (word 7 0)) (value_of (load_of w)) x p)
    [ inl q ↦ is_set w x (eqb-true (kind_of w) 6 q.0) q.1 | inr q ↦ is_remove w x (eqb-true w (word 7 0) q.0) q.1 ]

change_read : (x : Change) → change_fits x ≡ true → change_of (change_word x) ≡ Some x
change_read (Set z) h =
    let v = load_back z h in
    let k : kind_of (word 6 (value_load z)) ≡ 6 = omega (arith, v.1) in
    let l : load_of (word 6 (value_load z)) ≡ value_load z = omega (arith, v.1) in
    simp (eq-eqb _ 6 k) (ap (λ n. Some (Set (value_of n))) l ∙ ap (λ y. Some (Set y)) v.0)
change_read Remove h = refl

-- a write's two words, and back
record Spelt (i c : ℕ) (w : Write) : Type 0 where
  item_word : i ≡ word 5 w.item
  change_is : c ≡ change_word w.change
  item_fits : w.item < 268435456
  value_fits : change_fits w.change ≡ true

write_back : (i c : ℕ) (w : Write) → write_of i c ≡ Some w → Spelt i c w
write_back i c w p =
    let q = write_parts i c w p in
    let r = change_back c w.change q.2 in
    record { item_word = omega (arith, q.0, q.1); change_is = r.0; item_fits = omega (arith, q.1); value_fits = r.1 }

write_read : (w : Write) → w.item < 268435456 → change_fits w.change ≡ true →
    write_of (word 5 w.item) (change_word w.change) ≡ Some w
write_read w h f =
    let k : kind_of (word 5 w.item) ≡ 5 = omega arith in
    let l : load_of (word 5 w.item) ≡ w.item = omega arith in
    write_of_some (word 5 w.item) (change_word w.change) w.change k (change_read w.change f)
    ∙ ap (λ n. Some (a_write n w.change)) l

-- a write in range and in order, as one test and as its parts
pub fits_parts : (low : ℕ) (w : Write) → write_fits low w ≡ true →
    (leb low w.item ≡ true) × (w.item < 268435456) × (change_fits w.change ≡ true)
fits_parts low w e =
    let a = and_parts (leb low w.item) _ e in
    let b = and_parts (ltb w.item 268435456) _ a.1 in
    (a.0, ltb-true _ _ b.0, b.1)

-- all writes, and back
from_consed : (a : Option Write) (o : Option (List Write)) (l : List Write) → consed a o ≡ Some l →
    (w : Write) × ((m : List Write) × ((a ≡ Some w) × (o ≡ Some m) × (l ≡ w ∷ m)))
from_consed None o l p = absurd (let t : ◌≡◌ {A = ℕ} 0 1 = cc in omega arith)
from_consed (Some w) None l p = absurd (let t : ◌≡◌ {A = ℕ} 0 1 = cc in omega arith)
from_consed (Some w) (Some m) l p = (w, (m, (refl, refl, (cc))))

-- words that are writes by rising item are the words of these writes
pub writes_back : (low : ℕ) (ws : List ℕ) (l : List Write) → all_writes ws ≡ Some l → rising low l ≡ true →
    (ws ≡ writes_words l) × (leading ws ≡ l) × (fit_from low l ≡ true)
writes_back low [] l p r = let e : l ≡ [] = cc in rw e (refl, refl, refl)
writes_back low (i ∷ []) l p r = absurd (let t : ◌≡◌ {A = ℕ} 0 1 = cc in omega arith)
writes_back low (i ∷ (c ∷ ws)) l p r =
    let q = from_consed (write_of i c) (all_writes ws) l p in
    let w = q.0 in
    let m = q.1.0 in
    let e : l ≡ w ∷ m = q.1.1.2 in
    let u = and_parts (leb low w.item) (rising (suc w.item) m) (sym (ap (rising low) e) ∙ r) in
    let s = write_back i c w q.1.1.0 in
    let t = writes_back (suc w.item) ws m q.1.1.1 u.1 in
    let f : write_fits low w ≡ true = and_from _ _ u.0 (and_from _ _ (lt-ltb _ _ s.item_fits) s.value_fits) in
    rw e (
      ap (λ n. n ∷ (c ∷ ws)) s.item_word ∙ ap (λ n. word 5 w.item ∷ (n ∷ ws)) s.change_is
          ∙ ap (λ v. word 5 w.item ∷ (change_word w.change ∷ v)) t.0,
      ap (λ o. and_then o (leading ws)) q.1.1.0 ∙ ap (λ v. w ∷ v) t.1,
      and_from _ _ f t.2,
    )

-- the words of writes in range and by rising item are read as these writes
pub writes_read : (low : ℕ) (l : List Write) → fit_from low l ≡ true →
    (all_writes (writes_words l) ≡ Some l) × (leading (writes_words l) ≡ l) × (rising low l ≡ true)
writes_read low [] h = (refl, refl, refl)
writes_read low (w ∷ l) h =
    let a = and_parts (write_fits low w) (fit_from (suc w.item) l) h in
    let b = fits_parts low w a.0 in
    let t = writes_read (suc w.item) l a.1 in
    let r = write_read w b.1 b.2 in (
      ap (λ o. consed o (all_writes (writes_words l))) r ∙ ap (consed (Some w)) t.0,
      ap (λ o. and_then o (leading (writes_words l))) r ∙ ap (λ v. w ∷ v) t.1,
      and_from _ _ b.0 t.2,
    )
