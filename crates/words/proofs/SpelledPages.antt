-- The writes and the numbers of a page whose words hold them, one by one.
use Rattle.std.proofs.Common.{eqb, ◌≡◌, ℕ, zero, suc, ◌<◌, ◌≤◌, true, ltb, leb, List, [], ◌∷◌, length, get_or, refl, arith}
use Rattle.std.proofs.lemmas.Bool.{le-leb, leb-true, ltb-true, lt-ltb, eqb-true, and_parts, and_from}
use Rattle.words.specs.declared.changes.Write.{Write}
use Rattle.words.specs.Bits.{in_range, is_group, every}
use Rattle.words.specs.Writes.{change_fits, write_fits, all_fit, fit_from, valid_writes}
use Rattle.words.specs.Messages.{an_edit, valid_message}
use Rattle.words.specs.Pages.{PageValue, an_entry, a_closing, has_words, valid_page}
use Rattle.words.proofs.Codes.{fits_parts}

-- numbers within a limit are within a higher one
within_more : (low high : ℕ) (ks : List ℕ) → low ≤ high → every (λ k. leb k low) ks ≡ true → every (λ k. leb k high) ks ≡ true
within_more low high [] h e = refl
within_more low high (k ∷ ks) h e =
    let a = and_parts (leb k low) (every (λ x. leb x low) ks) e in
    let b = leb-true k low a.0 in
    and_from _ _ (le-leb k high (omega arith)) (within_more low high ks h a.1)

-- each of the writes is in range
pub fit_at : (l : List Write) (i : ℕ) (d : Write) → all_fit l ≡ true → i < length l →
    ((get_or l i d).item < 268435456) × (change_fits (get_or l i d).change ≡ true)
fit_at [] i d f h = absurd (omega arith)
fit_at (w ∷ l) zero d f h = let p = fits_parts 0 w (and_parts (write_fits 0 w) _ f).0 in (p.1, p.2)
fit_at (w ∷ l) (suc i) d f h = fit_at l i d (and_parts (write_fits 0 w) _ f).1 (omega arith)

rising_fit : (low : ℕ) (l : List Write) → fit_from low l ≡ true → all_fit l ≡ true
rising_fit low [] f = refl
rising_fit low (w ∷ l) f =
    let a = and_parts (write_fits low w) _ f in
    let b = and_parts (leb low w.item) _ a.0 in
    and_from _ _ (and_from _ _ (le-leb 0 w.item (omega arith)) b.1) (rising_fit (suc w.item) l a.1)

valid_fit : (l : List Write) → valid_writes l ≡ true → all_fit l ≡ true
valid_fit l v = rising_fit 0 l (and_parts (leb (length l) 16) _ (and_parts (leb 1 (length l)) _ v).1).1

-- the writes of an edit that a group has are in range
pub edit_fit : (n s t v : ℕ) (l : List Write) → valid_message n (an_edit s t v l) ≡ true → all_fit l ≡ true
edit_fit n s t v l e =
    let a = and_parts (ltb s n) _ (and_parts (is_group n) _ e).1 in
    let b = and_parts (in_range 1 t) _ a.1 in
    valid_fit l (and_parts (in_range 0 v) _ b.1).1

-- a number that a load holds, by a lower bound
from_zero : (low x : ℕ) → in_range low x ≡ true → in_range 0 x ≡ true
from_zero low x e = and_from _ _ (le-leb 0 x (omega arith)) (and_parts (leb low x) _ e).1

-- words hold the numbers of a page that a group has
pub valid_has_words : (n : ℕ) (p : PageValue) → valid_page n p ≡ true → has_words p ≡ true
valid_has_words n (an_entry s v t l) e =
    let g = and_parts (is_group n) _ e in
    let few = leb-true n 8 (and_parts (leb 2 n) _ g.0).1 in
    let a = and_parts (ltb s n) _ g.1 in
    let b = and_parts (in_range 1 v) _ a.1 in
    let c = and_parts (in_range 1 t) _ b.1 in
    let w = and_parts (leb (length l) 16) _ (and_parts (leb 1 (length l)) _ c.1).1 in
    and_from _ _ (lt-ltb s 16 (omega (arith, ltb-true s n a.0))) (and_from _ _ (from_zero 1 v b.0) (and_from _ _ (from_zero 1 t c.0)
    (and_from _ _ w.0 (valid_fit l c.1))))
valid_has_words n (a_closing v d ks) e =
    let g = and_parts (is_group n) _ e in
    let few = leb-true n 8 (and_parts (leb 2 n) _ g.0).1 in
    let a = and_parts (eqb (length ks) n) _ g.1 in
    let many = eqb-true (length ks) n a.0 in
    let b = and_parts (in_range v d) _ a.1 in
    let c = and_parts (leb v d) (ltb d 268435456) b.0 in
    let low = leb-true v d c.0 in
    let high = ltb-true d 268435456 c.1 in
    and_from _ _ (le-leb (length ks) 8 (omega arith)) (and_from _ _ (and_from _ _ (le-leb 0 v (omega arith)) (lt-ltb v 268435456 (omega arith)))
    (and_from _ _ (from_zero v d b.0) (within_more v 268435455 ks (omega arith) b.1)))
