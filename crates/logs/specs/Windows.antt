-- A window of a ring: its elements, one more at its end, and fewer at its front.
use Rattle.std.specs.Prelude.{◌≡◌, ℕ, ◌+◌, ◌-◌, ◌<◌, ◌≤◌, cond, ◌≢◌, List, [], ◌∷◌, ◌++◌, length, get_or, drop, slice_index_or, slice_set, refl}
use Rattle.std.proofs.Common.{sym, ap, ◌∙◌, ⊎_elim, arith}
use Rattle.std.proofs.lemmas.List.{length-append, length-drop, length-set, length-take-le, length_push, get_or-take, get_or-drop, get_or_append_left, get_or-append_right, get_or-set_same, get_or-set_other, get_or_push, same_lists}
use Rattle.std.proofs.lemmas.Bool.{cases_lt, lt-ltb, le-ltb}
use Rattle.std.proofs.lemmas.Bool.Decides.{nat_tests}
use Rattle.logs.specs.Window.{place_after, window}

module _ {X : Type 0} (xs : List X) (s : ℕ) (within : s ≤ length xs) where
  pub length_window : (n : ℕ) → n ≤ length xs → length (window xs s n) ≡ n
  length_window n h = length-take-le n (drop s (xs ++ xs)) (simp (length-drop, length-append) (omega arith))

  pub getD_twice : (i : ℕ) (d : X) → slice_index_or (xs ++ xs) (s + i) d ≡ slice_index_or xs (place_after (length xs) s i) d
  getD_twice i d =
      ⊎_elim
      (λ h. get_or_append_left xs xs d (s + i) h ∙ ap (λ b. get_or xs (cond b (s + i) (s + i - length xs)) d) (sym (lt-ltb _ _ h)))
      (λ h. get_or-append_right xs xs (length xs) (s + i) d refl h ∙ ap (λ b. get_or xs (cond b (s + i) (s + i - length xs)) d) (sym (le-ltb _ _ h)))
      (cases_lt (s + i) (length xs))

  pub get_d_window : (n i : ℕ) (d : X) → i < n → slice_index_or (window xs s n) i d ≡ slice_index_or xs (place_after (length xs) s i) d
  get_d_window n i d h = get_or-take n (drop s (xs ++ xs)) i d h ∙ get_or-drop s (xs ++ xs) i d ∙ getD_twice i d

pub place_below : (size s i : ℕ) → s ≤ size → i < size → place_after size s i < size
place_below size s i h l = grind (arith, nat_tests)

place_apart : (size s i j : ℕ) → s ≤ size → i < j → j < size → place_after size s i ≢ place_after size s j
place_apart size s i j h l m = grind (arith, nat_tests)

pub place_within : (size s i : ℕ) → s ≤ size → i ≤ size → place_after size s i ≤ size
place_within size s i h l = grind (arith, nat_tests)

pub place_further : (size s i j : ℕ) → s ≤ size → i + j < size → place_after size (place_after size s i) j ≡ place_after size s (i + j)
place_further size s i j h l = grind (arith, nat_tests)

module _ {X : Type 0} (xs : List X) (s : ℕ) (within : s ≤ length xs) where
  -- what the window holds once x is written after its last element
  pushed_at : (n : ℕ) (x : X) (l : n < length xs) (k : ℕ) (d : X) → k < n + 1 →
      slice_index_or (window (slice_set xs (place_after (length xs) s n) x) s (n + 1)) k d ≡ slice_index_or (window xs s n ++ (x ∷ [])) k d
  pushed_at n x l k d h =
      let p = place_after (length xs) s n in
      let same : length (slice_set xs p x) ≡ length xs = length-set xs p x in
      let read : get_or (window (slice_set xs p x) s (n + 1)) k d ≡ get_or (slice_set xs p x) (place_after (length xs) s k) d =
      get_d_window (slice_set xs p x) s (omega (arith, same)) (n + 1) k d h ∙ ap (λ z. get_or (slice_set xs p x) (place_after z s k) d) same in
      let long : length (window xs s n) ≡ n = length_window xs s within n (omega arith) in
      read ∙ ⊎_elim
      (λ (a : k < n). get_or-set_other xs p (place_after (length xs) s k) x d (place_apart (length xs) s k n within a l)
      ∙ sym (get_d_window xs s within n k d a)
      ∙ sym (get_or_append_left (window xs s n) (x ∷ []) d k (omega arith)))
      (λ (a : n ≤ k). let e : k ≡ n = omega arith in
      ap (λ z. get_or (slice_set xs p x) (place_after (length xs) s z) d) e
      ∙ get_or-set_same xs p x d (place_below (length xs) s n within l)
      ∙ sym (get_or_push (window xs s n) x d k (omega arith)))
      (cases_lt k n)

  pub window_push : (n : ℕ) (x : X) → n < length xs →
      window (slice_set xs (place_after (length xs) s n) x) s (n + 1) ≡ window xs s n ++ (x ∷ [])
  window_push n x l =
      let p = place_after (length xs) s n in
      let same : length (slice_set xs p x) ≡ length xs = length-set xs p x in
      let long : length (window (slice_set xs p x) s (n + 1)) ≡ n + 1 = length_window (slice_set xs p x) s (omega arith) (n + 1) (omega arith) in
      let before : length (window xs s n) ≡ n = length_window xs s within n (omega arith) in
      same_lists _ _ (long ∙ sym (length_push (window xs s n) x ∙ ap (λ z. z + 1) before)) (λ k d h. pushed_at n x l k d (omega arith))

  pub window_drop : (n k : ℕ) → n ≤ length xs → k ≤ n →
      window xs (place_after (length xs) s k) (n - k) ≡ drop k (window xs s n)
  window_drop n k l h =
      let t = place_after (length xs) s k in
      let inside : place_after (length xs) s k ≤ length xs = place_within (length xs) s k within (omega arith) in
      let long : length (window xs t (n - k)) ≡ n - k = length_window xs t inside (n - k) (omega arith) in
      let before : length (window xs s n) ≡ n = length_window xs s within n l in
      same_lists _ _ (long ∙ sym (length-drop k (window xs s n) ∙ ap (λ z. z - k) before))
      (λ i d a. get_d_window xs t inside (n - k) i d (omega arith)
      ∙ ap (λ z. get_or xs z d) (place_further (length xs) s k i within (omega arith))
      ∙ sym (get_d_window xs s within n (k + i) d (omega arith))
      ∙ sym (get_or-drop k (window xs s n) i d))
