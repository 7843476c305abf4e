-- A store in one row of memory: what each change of the row means, and that the row stays sound.
use Rattle.std.specs.Prelude.{◌≡◌, ℕ, ◌+◌, ◌-◌, ◌<◌, ◌≤◌, Bool, true, false, cond, List, [], ◌∷◌, ◌++◌, map, length, take, drop, nat_lt, slice_set, refl}
use Rattle.std.proofs.Common.{sym, ap, ◌∙◌, subst, ⊎_elim, arith}
use Rattle.std.proofs.Math.Seq.{take-add}
use Rattle.std.proofs.lemmas.List.{take-set-le, drop-set-add, take_more_set, length-take-le, length-drop, length-set, length-map, map_push}
use Rattle.std.proofs.lemmas.Bool.{and_parts, and_from, eqb-true, eq-eqb, leb-true, le-leb, lt-ltb, le-ltb, cases_lt}
use Rattle.words.specs.declared.changes.Write.{Write}
use Rattle.words.specs.declared.changes.Change.{Change}
use Rattle.words.specs.Writes.{a_write}
use Rattle.store.specs.declared.records.Record.{Record}
use Rattle.store.specs.declared.tally.Tally.{Tally}
use Rattle.store.specs.Counts.{Counts, counts, a_counts, one_staged, sealed_counts}
use Rattle.store.specs.Rows.{row_model, of_version}
use Rattle.store.specs.StoreModel.{Bounded, a_record, a_store, dated, undated, matches, some, every, at_most, space, has_space, staged_on, sealed_up, pruned, pruned_to}

-- What a tally owes.
pub record CountsSound (q : Counts) : Type 0 where
  pub small : q.capacity ≤ 4096
  pub fits : q.sealed + q.staged ≤ q.capacity
  pub high : q.version ≤ 268435455

pub tally_sound : (t : Tally) → CountsSound (counts t)
tally_sound t = record { small = t.small; fits = t.fits; high = t.high }

-- The records that the numbers count.
pub record RowSound (rs : List Record) (q : Counts) : Type 0 where
  pub room : q.capacity ≤ length rs
  pub past : every (at_most q.version) (take q.sealed rs) ≡ true
  pub coming : every (of_version (q.version + 1)) (take q.staged (drop q.sealed rs)) ≡ true

-- the same, as the ghost fields of a struct ask for it
pub owed : {rs : List Record} {q : Counts} → RowSound rs q → record {
  room : q.capacity ≤ length rs;
  past : every (at_most q.version) (take q.sealed rs) ≡ true;
  coming : every (of_version (q.version + 1)) (take q.staged (drop q.sealed rs)) ≡ true;
}
owed s = record { room = s.room; past = s.past; coming = s.coming }

-- `&v[0..n]` as the checker reads it, where xs is what v holds
pub front_part : {X : Type 0} (xs ys : List X) (n : ℕ) → ys ≡ xs → take (n - 0) ys ≡ take n xs
front_part xs ys n e = rw e (ap (λ k. take k xs) (omega arith))

same_model : (c v : ℕ) {xs ys : List Record} {zs ws : List Write} → xs ≡ ys → zs ≡ ws → a_store c v xs zs ≡ a_store c v ys ws
same_model c v p q = rw (p, q)

-- Records that all pass

module _ (p : Record → Bool) where
  pub every_append : (xs ys : List Record) → every p xs ≡ true → every p ys ≡ true → every p (xs ++ ys) ≡ true
  every_append [] ys h g = g
  every_append (x ∷ xs) ys h g =
      let parts = and_parts (p x) (every p xs) h in
      and_from (p x) (every p (xs ++ ys)) parts.0 (every_append xs ys parts.1 g)

  pub every_pruned : (h : ℕ) (xs : List Record) → every p xs ≡ true → every p (pruned h xs) ≡ true
  every_pruned h [] e = refl
  every_pruned h (x ∷ xs) e =
      let parts = and_parts (p x) (every p xs) e in
      elim (some (matches x.item h) xs) as (λ t. every p (cond t (pruned h xs) (x ∷ pruned h xs)) ≡ true) [
        | true ↦ every_pruned h xs parts.1
        | false ↦ and_from (p x) (every p (pruned h xs)) parts.0 (every_pruned h xs parts.1)
      ]

pub every_wider : (p q : Record → Bool) → ((r : Record) → p r ≡ true → q r ≡ true) → (xs : List Record) → every p xs ≡ true → every q xs ≡ true
every_wider p q w [] h = refl
every_wider p q w (x ∷ xs) h =
    let parts = and_parts (p x) (every p xs) h in
    and_from (q x) (every q xs) (w x parts.0) (every_wider p q w xs parts.1)

pub later : (v u : ℕ) → v ≤ u → (r : Record) → at_most v r ≡ true → at_most u r ≡ true
later v u h r e = let l = leb-true r.version v e in le-leb r.version u (omega arith)

of_at_most : (v : ℕ) (r : Record) → of_version v r ≡ true → at_most v r ≡ true
of_at_most v r e = let l = eqb-true r.version v e in le-leb r.version v (omega arith)

-- A record of version v is its write, dated again

dated_undated : (v : ℕ) (xs : List Record) → every (of_version v) xs ≡ true → map (dated v) (map undated xs) ≡ xs
dated_undated v [] h = refl
dated_undated v (x ∷ xs) h =
    let parts = and_parts (of_version v x) (every (of_version v) xs) h in
    let e = eqb-true x.version v parts.0 in
    rw (dated_undated v xs parts.1, ← e)

module _ (rs : List Record) (n t : ℕ) where
  pub length_sealed : n + t ≤ length rs → length (take n rs) ≡ n
  length_sealed h = length-take-le n rs (omega arith)

  pub length_staged : n + t ≤ length rs → length (map undated (take t (drop n rs))) ≡ t
  length_staged h = length-map (take t (drop n rs)) undated ∙ length-take-le t (drop n rs) (omega (arith, length-drop n rs))

  staged_push : (r : Record) → n + t < length rs → take (t + 1) (drop n (slice_set rs (n + t) r)) ≡ take t (drop n rs) ++ (r ∷ [])
  staged_push r h = ap (take (t + 1)) (drop-set-add n rs t r) ∙ take_more_set (drop n rs) t r (omega (arith, length-drop n rs))

module _ (rs : List Record) (q : Counts) (k : CountsSound q) (s : RowSound rs q) where
  pub inside : q.sealed + q.staged ≤ length rs
  inside = let r = s.room in let f = k.fits in omega arith

  pub row_bounded : Bounded (row_model rs q)
  row_bounded =
      let small = k.small in
      record {
        capacity_bound = omega arith;
        version_bound = k.high;
        fits = rw (length_sealed rs q.sealed q.staged inside, length_staged rs q.sealed q.staged inside) k.fits;
        past = s.past;
      }

  -- Stage

  row_space : space (row_model rs q) ≡ q.capacity - (q.sealed + q.staged)
  row_space = rw (length_sealed rs q.sealed q.staged inside, length_staged rs q.sealed q.staged inside)

  pub row_open : q.sealed + q.staged < q.capacity → has_space (row_model rs q) ≡ true
  row_open h = lt-ltb 0 _ (omega (arith, row_space))

  pub row_staged : (i : ℕ) (x : Change) → q.sealed + q.staged < q.capacity →
      row_model (slice_set rs (q.sealed + q.staged) (a_record (q.version + 1) i x)) (one_staged q) ≡ staged_on (row_model rs q) (a_write i x)
  row_staged i x h =
      let room = s.room in
      let n = q.sealed in
      let t = q.staged in
      let r = a_record (q.version + 1) i x in
      rw (row_open h) (same_model q.capacity q.version
      (take-set-le n rs (n + t) r (omega arith))
      (ap (map undated) (staged_push rs n t r (omega arith)) ∙ map_push undated (take t (drop n rs)) r))

  pub staged_sound : (r : Record) → r.version ≡ q.version + 1 → q.sealed + q.staged < q.capacity →
      RowSound (slice_set rs (q.sealed + q.staged) r) (one_staged q)
  staged_sound r e h =
      let room = s.room in
      let n = q.sealed in
      let t = q.staged in
      let p = of_version (q.version + 1) in
      record {
        room = simp length-set s.room;
        past = ap (every (at_most q.version)) (take-set-le n rs (n + t) r (omega arith)) ∙ s.past;
        coming =
            ap (every p) (staged_push rs n t r (omega arith))
            ∙ every_append p (take t (drop n rs)) (r ∷ []) s.coming (and_from (p r) true (eq-eqb r.version (q.version + 1) e) refl);
      }

  -- the same, as a tally counts it
  module _ (place : ℕ) (new : Counts) (done : (place ≡ q.sealed + q.staged) × (place < q.capacity) × (new ≡ one_staged q)) (i : ℕ) (x : Change) where
    open_here : q.sealed + q.staged < q.capacity
    open_here = omega (arith, done.0, done.1)

    pub stage_row : row_model (slice_set rs place (a_record (new.version + 1) i x)) new ≡ staged_on (row_model rs q) (a_write i x)
    stage_row =
        ap (λ z. row_model (slice_set rs place (a_record (z.version + 1) i x)) z) done.2
        ∙ ap (λ k. row_model (slice_set rs k (a_record (q.version + 1) i x)) (one_staged q)) done.0
        ∙ row_staged i x open_here

    pub stage_sound : RowSound (slice_set rs place (a_record (new.version + 1) i x)) new
    stage_sound =
        subst (λ z. RowSound (slice_set rs place (a_record (z.version + 1) i x)) z) (sym done.2)
        (subst (λ k. RowSound (slice_set rs k (a_record (q.version + 1) i x)) (one_staged q)) (sym done.0)
        (staged_sound (a_record (q.version + 1) i x) refl open_here))

  -- Seal

  pub sealed_capacity : (sealed_counts q).capacity ≡ q.capacity
  sealed_capacity = elim (nat_lt q.version 268435455) as (λ b. (cond b (a_counts q.capacity (q.version + 1) (q.sealed + q.staged) 0) q).capacity ≡ q.capacity) [ true ↦ refl | false ↦ refl ]

  pub row_sealed : row_model rs (sealed_counts q) ≡ sealed_up (row_model rs q)
  row_sealed =
      ⊎_elim
      (λ h. rw (lt-ltb q.version 268435455 h) (same_model q.capacity (q.version + 1)
      (take-add q.sealed q.staged rs ∙ ap (λ zs. take q.sealed rs ++ zs) (sym (dated_undated (q.version + 1) _ s.coming)))
      refl))
      (λ h. rw (le-ltb q.version 268435455 h))
      (cases_lt q.version 268435455)

  pub sealed_sound : RowSound rs (sealed_counts q)
  sealed_sound =
      let p = at_most (q.version + 1) in
      let f = k.fits in
      ⊎_elim
      (λ h. rw (lt-ltb q.version 268435455 h) (record {
        room = s.room;
        past =
            ap (every p) (take-add q.sealed q.staged rs)
            ∙ every_append p (take q.sealed rs) (take q.staged (drop q.sealed rs))
            (every_wider (at_most q.version) p (later q.version (q.version + 1) (omega arith)) (take q.sealed rs) s.past)
            (every_wider (of_version (q.version + 1)) p (of_at_most (q.version + 1)) (take q.staged (drop q.sealed rs)) s.coming);
        coming = refl;
      }))
      (λ h. rw (le-ltb q.version 268435455 h) s)
      (cases_lt q.version 268435455)

  -- Prune: ys is the row afterwards, with n sealed records left

  module _ (h : ℕ) (ys : List Record) (n : ℕ) (long : length ys ≡ length rs)
      (front : take n ys ≡ pruned h (take q.sealed rs)) (back : take q.staged (drop n ys) ≡ take q.staged (drop q.sealed rs)) where
    pub row_pruned : row_model ys (a_counts q.capacity q.version n q.staged) ≡ pruned_to h (row_model rs q)
    row_pruned = same_model q.capacity q.version front (ap (map undated) back)

    pub pruned_sound : RowSound ys (a_counts q.capacity q.version n q.staged)
    pruned_sound =
        let room = s.room in
        record {
          room = omega arith;
          past = ap (every (at_most q.version)) front ∙ every_pruned (at_most q.version) h (take q.sealed rs) s.past;
          coming = ap (every (of_version (q.version + 1))) back ∙ s.coming;
        }
