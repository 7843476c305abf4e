-- Words that are so many writes and nothing else: one step of a walk over them.
use Rattle.std.proofs.Common.{◌≡◌, ℕ, suc, ◌+◌, ◌-◌, ◌<◌, ◌≤◌, Bool, true, false, ◌&&◌, eqb, leb, List, [], ◌∷◌, length, drop, Some, None, Option, sym, refl, ap, ◌∙◌, arith, length-drop}
use Rattle.std.proofs.lemmas.List.{drop-drop}
use Rattle.std.proofs.lemmas.Bool.{ne_eqb, le-leb}
use Rattle.std.proofs.lemmas.Bool.Decides.{nat_tests}
use Rattle.words.specs.declared.changes.Write.{Write}
use Rattle.words.specs.Scans.{write_at}
use Rattle.words.specs.Writes.{write_of, first_write, after_write, consed, all_writes, rising, rising_count, are_writes}
use Rattle.words.proofs.Fronts.{after_is}

eqb_pred : (a n : ℕ) → 0 < n → eqb (suc a) n ≡ eqb a (n - 1)
eqb_pred a n h = grind (arith, nat_tests)

and_swap : (x y z : Bool) → (x && (y && z)) ≡ (y && (x && z))
and_swap true y z = refl
and_swap false true z = refl
and_swap false false z = refl

and_none : (x : Bool) → false ≡ (x && false)
and_none true = refl
and_none false = refl

count_consed : (low n : ℕ) (w : Write) (o : Option (List Write)) → 0 < n →
    rising_count low n (consed (Some w) o) ≡ (leb low w.item && rising_count (suc w.item) (n - 1) o)
count_consed low n w None h = and_none (leb low w.item)
count_consed low n w (Some l) h =
    ap (λ b. b && (leb low w.item && rising (suc w.item) l)) (eqb_pred (length l) n h)
    ∙ and_swap (eqb (length l) (n - 1)) (leb low w.item) (rising (suc w.item) l)

count_some : (low n : ℕ) (ws : List ℕ) (w : Write) → 0 < n → first_write ws ≡ Some w →
    rising_count low n (all_writes ws) ≡ (leb low w.item && rising_count (suc w.item) (n - 1) (all_writes (after_write ws)))
count_some low n [] w h p = absurd (let z : ◌≡◌ {A = ℕ} 0 1 = cc in omega arith)
count_some low n (i ∷ []) w h p = absurd (let z : ◌≡◌ {A = ℕ} 0 1 = cc in omega arith)
count_some low n (i ∷ (c ∷ ws)) w h p =
    ap (λ o. rising_count low n (consed o (all_writes ws))) p
    ∙ count_consed low n w (all_writes ws) h
    ∙ ap (λ v. leb low w.item && rising_count (suc w.item) (n - 1) (all_writes v)) (sym (after_is (i ∷ (c ∷ ws)) w p))

count_end : (low : ℕ) (ws : List ℕ) → rising_count low 0 (all_writes ws) ≡ eqb (length ws) 0
count_end low [] = refl
count_end low (i ∷ []) = refl
count_end low (i ∷ (c ∷ ws)) =
    none_left low (write_of i c) (all_writes ws) ∙ sym (ne_eqb (length (i ∷ (c ∷ ws))) 0 (λ e. omega arith))
  where
    none_left : (low : ℕ) (a : Option Write) (o : Option (List Write)) → rising_count low 0 (consed a o) ≡ false
    none_left low None o = refl
    none_left low (Some w) None = refl
    none_left low (Some w) (Some l) = grind (arith, nat_tests)

-- at a place of the words: one write on, and the end
module _ (ws : List ℕ) (low n p : ℕ) where
  test_at : (w : Write) → 0 < n → write_at ws p ≡ Some w →
      are_writes low n (drop p ws) ≡ (leb low w.item && are_writes (suc w.item) (n - 1) (drop (p + 2) ws))
  test_at w h e =
      count_some low n (drop p ws) w h e
      ∙ ap (λ v. leb low w.item && are_writes (suc w.item) (n - 1) v) (after_is (drop p ws) w e ∙ drop-drop 2 p ws)

  pub more_at : (m k q : ℕ) (w : Write) → 0 < n → write_at ws p ≡ Some w → low ≤ w.item →
      m ≡ n - 1 → k ≡ suc w.item → q ≡ p + 2 → are_writes k m (drop q ws) ≡ are_writes low n (drop p ws)
  more_at m k q w h e l f g r = simp (f, g, r) (sym (test_at w h e ∙ simp (le-leb low w.item l)))

  pub stop_at : (w : Write) → 0 < n → write_at ws p ≡ Some w → w.item < low → false ≡ are_writes low n (drop p ws)
  stop_at w h e l =
      let f : leb low w.item ≡ false = grind (arith, nat_tests) in
      sym (test_at w h e ∙ ap (λ b. b && are_writes (suc w.item) (n - 1) (drop (p + 2) ws)) f)

  pub end_at : n ≡ 0 → are_writes low n (drop p ws) ≡ leb (length ws) p
  end_at e = simp e (count_end low (drop p ws) ∙ ap (λ k. eqb k 0) (length-drop p ws) ∙ passed (length ws) p)
    where
      passed : (a b : ℕ) → eqb (a - b) 0 ≡ leb a b
      passed a b = grind (arith, nat_tests)
