-- What is held: one entry of it, one more, and fewer.
use Rattle.std.specs.Prelude.{◌≡◌, ℕ, ◌+◌, ◌-◌, ◌<◌, ◌≤◌, min, max, true, cond, ◌&&◌, [], ◌∷◌, ◌++◌, length, drop, Some, None, nat_lt, slice_index_or}
use Rattle.std.proofs.Common.{sym, ap, ◌∙◌, arith}
use Rattle.std.specs.List.{slice_get}
use Rattle.std.proofs.lemmas.Option.{slice_get-get_or, slice_get_past}
use Rattle.std.proofs.lemmas.Bool.{and_parts, lt-ltb, le-ltb, ltb-true}
use Rattle.logs.specs.LogModel.{Entry, Held, limit, with_entries, last_held, loggable, fits, can_append, appended, held_above, entry_held}

module _ (h : Held) where
  -- the entry of a version
  pub entry_low : (v : ℕ) → v ≤ h.floor → entry_held h v ≡ None
  entry_low v l = ap (λ b. cond b (slice_get h.entries (v - (h.floor + 1))) None) (le-ltb h.floor v l)

  pub entry_above : (v : ℕ) → h.floor < v → entry_held h v ≡ slice_get h.entries (v - (h.floor + 1))
  entry_above v l = ap (λ b. cond b (slice_get h.entries (v - (h.floor + 1))) None) (lt-ltb h.floor v l)

  pub entry_high : (v : ℕ) → last_held h < v → entry_held h v ≡ None
  entry_high v l = entry_above v (omega arith) ∙ slice_get_past h.entries _ (omega arith)

  pub entry_some : (v i : ℕ) (e : Entry) → v ≡ h.floor + 1 + i → i < length h.entries → e ≡ slice_index_or h.entries i e →
      entry_held h v ≡ Some e
  entry_some v i e p l q =
      let j : v - (h.floor + 1) ≡ i = omega arith in
      entry_above v (omega arith) ∙ ap (slice_get h.entries) j ∙ slice_get-get_or h.entries i e l ∙ ap Some (sym q)

  -- one more entry, taken or declined
  pub append_parts : (e : Entry) → can_append h e ≡ true → (loggable e ≡ true) × (fits h (length e.writes) ≡ true) × (last_held h < limit)
  append_parts e t =
      let p = and_parts (loggable e) (fits h (length e.writes) && nat_lt (last_held h) limit) t in
      let q = and_parts (fits h (length e.writes)) (nat_lt (last_held h) limit) p.1 in
      (p.0, q.0, ltb-true _ _ q.1)

  pub append_taken : (e : Entry) → can_append h e ≡ true → appended h e ≡ with_entries h h.floor (h.entries ++ (e ∷ []))
  append_taken e t = ap (λ b. cond b (with_entries h h.floor (h.entries ++ (e ∷ []))) h) t

  -- without the entries up to b, the smaller of v and the last version
  pub above_more : (v b : ℕ) → b ≡ min v (last_held h) → h.floor < b →
      with_entries h b (drop (b - h.floor) h.entries) ≡ held_above h v
  above_more v b e l =
      let m : max h.floor b ≡ b = omega arith in
      ap (λ z. with_entries h z (drop (b - h.floor) h.entries)) (sym m)
      ∙ ap (λ z. with_entries h (max h.floor z) (drop (z - h.floor) h.entries)) e
