-- What a ring holds once a list was written behind its last element, in one piece of its memory.
use Rattle.std.proofs.Common.{◌≡◌, ℕ, zero, suc, ◌+◌, ◌-◌, ◌<◌, ◌≤◌, cond, List, [], ◌∷◌, ◌++◌, length, take, drop, get_or, set, refl, sym, ap, ◌∙◌, arith}
use Rattle.std.proofs.Math.Seq.{paste, paste-suc, take-suc}
use Rattle.std.proofs.lemmas.List.{append_assoc, append-nil, take_all, take-append-drop}
use Rattle.std.proofs.lemmas.List.Edits.{paste_none, paste_all, length-paste}
use Rattle.std.proofs.lemmas.Bool.{lt-ltb}
use Rattle.logs.specs.Window.{place_after, window}
use Rattle.logs.specs.Windows.{window_push, place_further}

module _ {X : Type 0} (m : List X) (s n p : ℕ) (begins : s ≤ length m) (at : p ≡ place_after (length m) s n) where
  module _ (xs : List X) (z : X) (piece : p + length xs ≤ length m) (room : n + length xs ≤ length m) where
    long : (j : ℕ) → j ≤ length xs → length (paste m p xs j) ≡ length m
    long j h = length-paste m p xs j (omega arith) h

    place : (j : ℕ) → j < length xs → p + j ≡ place_after (length (paste m p xs j)) s (n + j)
    place j h =
        let near : place_after (length m) p j ≡ p + j = ap (λ b. cond b (p + j) (p + j - length m)) (lt-ltb _ _ (omega arith)) in
        sym near
        ∙ ap (λ k. place_after (length m) k j) at
        ∙ place_further (length m) s n j begins (omega arith)
        ∙ ap (λ k. place_after k s (n + j)) (sym (long j (omega arith)))

    held : (j : ℕ) → j ≤ length xs → window (paste m p xs j) s (n + j) ≡ window m s n ++ take j xs
    held zero h =
        let same : n + zero ≡ n = omega arith in
        ap (λ v. window v s (n + zero)) (sym (paste_none m p xs)) ∙ ap (window m s) same ∙ sym (append-nil (window m s n))
    held (suc j) h =
        let y = get_or xs j z in
        let l = long j (omega arith) in
        let more : n + suc j ≡ n + j + 1 = omega arith in
        ap (λ v. window v s (n + suc j)) (sym (paste-suc m p xs j z (omega arith) (omega arith)))
        ∙ ap (λ k. window (set (paste m p xs j) k y) s (n + suc j)) (place j (omega arith))
        ∙ ap (window (set (paste m p xs j) (place_after (length (paste m p xs j)) s (n + j)) y) s) more
        ∙ window_push (paste m p xs j) s (omega (arith, l)) (n + j) y (omega (arith, l))
        ∙ ap (λ v. v ++ (y ∷ [])) (held j (omega arith))
        ∙ append_assoc (window m s n) (take j xs) (y ∷ [])
        ∙ ap (λ v. window m s n ++ v) (sym (take-suc xs j z (omega arith)))

    all_held : window (take p m ++ (xs ++ drop (p + length xs) m)) s (n + length xs) ≡ window m s n ++ xs
    all_held =
        ap (λ v. window v s (n + length xs)) (sym (paste_all m p xs (length xs) refl))
        ∙ held (length xs) (omega arith)
        ∙ ap (λ v. window m s n ++ v) (take_all (length xs) xs (omega arith))

  pub window_pasted : (xs : List X) → p + length xs ≤ length m → n + length xs ≤ length m →
      window (take p m ++ (xs ++ drop (p + length xs) m)) s (n + length xs) ≡ window m s n ++ xs
  window_pasted [] h k =
      let there : p + zero ≡ p = omega arith in
      let same : n + zero ≡ n = omega arith in
      ap (λ v. window v s (n + zero)) (ap (λ i. take p m ++ drop i m) there ∙ take-append-drop p m)
      ∙ ap (window m s) same
      ∙ sym (append-nil (window m s n))
  window_pasted (x ∷ xs) h k = all_held (x ∷ xs) x h k
