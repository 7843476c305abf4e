-- Writes read from words, one after another.
use Rattle.std.proofs.Common.{◌≡◌, ℕ, ◌≤◌, false, cond, List, [], ◌∷◌, ◌++◌, length, take, is_some, Some, None, sym, refl, ap, ◌∙◌, arith}
use Rattle.std.proofs.lemmas.List.{append-nil, take_at, take_all}
use Rattle.std.proofs.lemmas.Bool.{ltb-false}
use Rattle.std.specs.List.{insert}
use Rattle.few.specs.Lists.{has_room, inserted}
use Rattle.words.specs.declared.changes.Write.{Write}
use Rattle.words.specs.Writes.{first_write, after_write, leading, and_then}

-- words, by the write that begins them
leading_first : (ws : List ℕ) (w : Write) → first_write ws ≡ Some w → leading ws ≡ w ∷ leading (after_write ws)
leading_first [] w e = absurd (let z : ◌≡◌ {A = ℕ} 0 1 = cc in omega arith)
leading_first (i ∷ []) w e = absurd (let z : ◌≡◌ {A = ℕ} 0 1 = cc in omega arith)
leading_first (i ∷ (c ∷ ws)) w e = ap (λ o. and_then o (leading ws)) e ∙ ap (λ o. w ∷ leading (cond (is_some o) ws (i ∷ (c ∷ ws)))) (sym e)

leading_none : (ws : List ℕ) → first_write ws ≡ None → leading ws ≡ []
leading_none [] e = refl
leading_none (i ∷ []) e = refl
leading_none (i ∷ (c ∷ ws)) e = ap (λ o. and_then o (leading ws)) e

-- the writes so far, and what the rest begins with, are what the whole begins with
module _ (l whole k : List Write) (ws : List ℕ) (sofar : l ++ leading ws ≡ whole) where
  -- no room for one more
  pub gather_full : (w : Write) → has_room 16 l ≡ false → length l ≤ 16 → k ≡ inserted 16 l (length l) w → k ≡ take 16 whole
  gather_full w room few f =
      f ∙ ap (λ b. cond b (insert l (length l) w) l) room
      ∙ sym (ap (take 16) (sym sofar) ∙ take_at l (leading ws) 16 (omega (arith, ltb-false (length l) 16 room)))

  -- none to come
  pub gather_stop : first_write ws ≡ None → length l ≤ 16 → l ≡ take 16 whole
  gather_stop e few =
      sym (ap (take 16) (sym sofar ∙ ap (λ m. l ++ m) (leading_none ws e) ∙ append-nil l) ∙ take_all 16 l few)
