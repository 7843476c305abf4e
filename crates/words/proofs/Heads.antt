-- A head and its writes: their words, and back.
use Rattle.std.proofs.Common.{◌≡◌, ℕ, ◌/◌, ◌%◌, ◌<◌, ◌≤◌, true, eqb, ltb, leb, List, length, Some, None, Option, sym, refl, ap, ◌∙◌, arith}
use Rattle.std.proofs.lemmas.Bool.{eq-eqb, eqb-true, lt-ltb, le-leb, leb-true, and_parts, and_from}
use Rattle.words.specs.declared.changes.Write.{Write}
use Rattle.words.specs.Bits.{kind_of, site_of, count_of, clear_between, head}
use Rattle.words.specs.Writes.{all_writes, leading, rising, rising_count, heads, writes_words, fit_from, valid_writes}
use Rattle.words.proofs.Codes.{writes_back, writes_read}

-- a head is its kind, site and count
pub head_is : (k w : ℕ) → kind_of w ≡ k → clear_between w ≡ true → w ≡ head k (site_of w) (count_of w)
head_is k w e h = let z = eqb-true (w / 256 % 65536) 0 h in omega arith

module _ (k s c : ℕ) (p : s < 16) (q : c < 256) where
  pub head_kind : kind_of (head k s c) ≡ k
  head_kind = omega arith

  pub head_clear : clear_between (head k s c) ≡ true
  head_clear = eq-eqb (head k s c / 256 % 65536) 0 (omega arith)

  pub head_site : site_of (head k s c) ≡ s
  head_site = omega arith

  pub head_count : count_of (head k s c) ≡ c
  head_count = omega arith

-- so many writes by rising item, as one test and as its parts
count_parts : (n : ℕ) (o : Option (List Write)) → rising_count 0 n o ≡ true →
    (l : List Write) × ((o ≡ Some l) × (length l ≡ n) × (rising 0 l ≡ true))
count_parts n None h = absurd (let t : ◌≡◌ {A = ℕ} 0 1 = cc in omega arith)
count_parts n (Some l) h = let q = and_parts (eqb (length l) n) (rising 0 l) h in (l, (refl, eqb-true (length l) n q.0, q.1))

count_test : (n : ℕ) (l : List Write) (o : Option (List Write)) → o ≡ Some l → length l ≡ n → rising 0 l ≡ true → rising_count 0 n o ≡ true
count_test n l o e h r = ap (rising_count 0 n) e ∙ and_from _ _ (eq-eqb (length l) n h) r

-- what a head and the words under it say
pub record Headed (n k h : ℕ) (ws : List ℕ) : Type 0 where
  pub head_word : h ≡ head k (site_of h) (length (leading ws))
  pub site : ltb (site_of h) n ≡ true
  pub words : ws ≡ writes_words (leading ws)
  pub valid : valid_writes (leading ws) ≡ true

pub heads_back : (n k h : ℕ) (ws : List ℕ) → heads n k h ws ≡ true → Headed n k h ws
heads_back n k h ws e =
    let a = and_parts (eqb (kind_of h) k) _ e in
    let b = and_parts (clear_between h) _ a.1 in
    let d = and_parts (ltb (site_of h) n) _ b.1 in
    let f = and_parts (leb 1 (count_of h)) _ d.1 in
    let g = and_parts (leb (count_of h) 16) _ f.1 in
    let q = count_parts (count_of h) (all_writes ws) g.1 in
    let r = writes_back 0 ws q.0 q.1.0 q.1.2 in
    let m : length (leading ws) ≡ count_of h = ap length r.1 ∙ q.1.1 in
    let least = leb-true 1 (count_of h) f.0 in
    let most = leb-true (count_of h) 16 g.0 in
    record {
      head_word = head_is k h (eqb-true _ _ a.0) b.0 ∙ ap (head k (site_of h)) (sym m);
      site = d.0;
      words = r.0 ∙ ap writes_words (sym r.1);
      valid = and_from _ _ (le-leb 1 (length (leading ws)) (omega (arith, m)))
          (and_from _ _ (le-leb (length (leading ws)) 16 (omega (arith, m))) (ap (fit_from 0) r.1 ∙ r.2));
    }

module _ (n k s : ℕ) (l : List Write) (small : n ≤ 8) (own : s < n) (v : valid_writes l ≡ true) where
  some : 1 ≤ length l
  some = leb-true 1 (length l) (and_parts (leb 1 (length l)) _ v).0

  few : length l ≤ 16
  few = leb-true (length l) 16 (and_parts (leb (length l) 16) _ (and_parts (leb 1 (length l)) _ v).1).0

  fit : fit_from 0 l ≡ true
  fit = (and_parts (leb (length l) 16) _ (and_parts (leb 1 (length l)) _ v).1).1

  site_small : s < 16
  site_small = omega arith

  few_small : length l < 256
  few_small = omega (arith, few)

  counted : count_of (head k s (length l)) ≡ length l
  counted = head_count k s (length l) site_small few_small

  pub sited : site_of (head k s (length l)) ≡ s
  sited = head_site k s (length l) site_small few_small

  pub led : leading (writes_words l) ≡ l
  led = (writes_read 0 l fit).1

  pub heads_read : heads n k (head k s (length l)) (writes_words l) ≡ true
  heads_read =
      and_from _ _ (eq-eqb _ _ (head_kind k s (length l) site_small few_small)) (and_from _ _ (head_clear k s (length l) site_small few_small)
      (and_from _ _ (lt-ltb (site_of (head k s (length l))) n (omega (arith, sited))) (and_from _ _ (le-leb 1 (count_of (head k s (length l))) (omega (arith, counted, some)))
      (and_from _ _ (le-leb (count_of (head k s (length l))) 16 (omega (arith, counted, few)))
      (count_test _ l (all_writes (writes_words l)) (writes_read 0 l fit).0 (sym counted) (writes_read 0 l fit).2)))))
