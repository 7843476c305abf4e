-- Known numbers: a test of each, one of them set, the least of them.
use Rattle.std.proofs.Common.{◌≡◌, ℕ, zero, suc, ◌+◌, ◌<◌, ◌≤◌, min, true, leb, List, [], ◌∷◌, length, get_or, set, fold, sym, refl, ap, ◌∙◌, arith}
use Rattle.std.proofs.lemmas.Bool.{and_parts, lt-ltb, le-leb}
use Rattle.logs.specs.LogModel.{Marks, limit, a_mark, all_within, mark_noted, least}

pub within_set : (xs : List ℕ) (i x : ℕ) → leb x limit ≡ true → all_within xs ≡ true → all_within (set xs i x) ≡ true
within_set [] i x h all = refl
within_set (y ∷ ys) zero x h all = let p = and_parts (leb y limit) (all_within ys) all in rw (h, p.1)
within_set (y ∷ ys) (suc i) x h all =
    let p = and_parts (leb y limit) (all_within ys) all in rw p.0 (within_set ys i x h p.1)

least_from : (b k : ℕ) (ks : List ℕ) → fold min (min b k) ks ≡ min b (fold min k ks)
least_from b k [] = refl
least_from b k (j ∷ js) =
    let e : min (min b k) j ≡ min b (min k j) = omega arith in
    ap (λ m. fold min m js) e ∙ least_from b (min k j) js

least_folded : (k : ℕ) (ks : List ℕ) → least (k ∷ ks) ≡ fold min k ks
least_folded k [] = refl
least_folded k (j ∷ js) = ap (min k) (least_folded j js) ∙ sym (least_from k j js)

-- a walk over the numbers that keeps the least so far, and begins with the first
pub least_begins : (ks : List ℕ) → 0 < length ks → fold min (get_or ks 0 0) ks ≡ least ks
least_begins [] h = absurd (omega arith)
least_begins (k ∷ ks) h = let e : min k k ≡ k = omega arith in ap (λ m. fold min m ks) e ∙ sym (least_folded k ks)

-- a note that is taken
pub noted_is : (k : Marks) (site number : ℕ) → site < length k.known → number ≤ limit → k.place < limit →
    a_mark (k.place + 1) (set k.known site number) k.tickets k.whole ≡ mark_noted k site number
noted_is k site number h l p =
    rw (lt-ltb site (length k.known) h, le-leb number limit l, lt-ltb k.place limit p)
