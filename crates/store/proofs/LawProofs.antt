-- The laws of every store.
use Rattle.std.proofs.Common.{◌≡◌, ℕ, ◌+◌, ◌<◌, ◌≤◌, Bool, true, false, cond, ◌&&◌, eqb, ltb, leb, List, [], ◌∷◌, ◌++◌, map, Some, None, Option, sym, refl, ap, ◌∙◌, ⊎_elim, arith}
use Rattle.std.proofs.lemmas.Bool.{and_parts, and_from, and_left, and_right, or_parts, eqb-true, leb-true, le-leb, lt-leb, lt-ltb, cases_Bool}
use Rattle.words.specs.declared.changes.Write.{Write}
use Rattle.store.specs.declared.records.Record.{Record}
use Rattle.store.specs.Laws.{Part, none, kept, left_out, PruneLaw, SealLaw, Seals, ReadLaw, rewritten, writes_item}
use Rattle.store.specs.StoreModel.{StoreModel, Bounded, or_else, latest, matches, some, every, at_most, value_of, value_in, dated, with_staged, has_space, next_version, pruned, sealed_up, read_at}

or_else_none : (o : Option Record) → or_else o None ≡ o
or_else_none None = refl
or_else_none (Some r) = refl

or_else_some : (o : Option Record) (r : Record) (d : Option Record) → or_else (or_else o (Some r)) d ≡ or_else o (Some r)
or_else_some None r d = refl
or_else_some (Some x) r d = refl

or_else_pass : (o d : Option Record) → or_else o d ≡ o → or_else (or_else o None) d ≡ or_else o None
or_else_pass None d h = h
or_else_pass (Some r) d h = refl

or_else_assoc : (a b c : Option Record) → or_else (or_else a b) c ≡ or_else a (or_else b c)
or_else_assoc None b c = refl
or_else_assoc (Some r) b c = refl

module _ (p : Record → Bool) where
  -- where one passes, there is a last one
  some_latest : (xs : List Record) (d : Option Record) → some p xs ≡ true → or_else (latest p xs) d ≡ latest p xs
  some_latest [] d h = absurd (let z : ◌≡◌ {A = ℕ} 0 1 = cc in omega arith)
  some_latest (x ∷ xs) d h =
      ⊎_elim
      (λ e. rw e (or_else_some (latest p xs) x d))
      (λ e. rw e (or_else_pass (latest p xs) d (some_latest xs d (rw e at h))))
      (cases_Bool (p x))

  latest_append : (xs ys : List Record) → latest p (xs ++ ys) ≡ or_else (latest p ys) (latest p xs)
  latest_append [] ys = sym (or_else_none (latest p ys))
  latest_append (x ∷ xs) ys =
      ap (λ o. or_else o (cond (p x) (Some x) None)) (latest_append xs ys)
      ∙ or_else_assoc (latest p ys) (latest p xs) (cond (p x) (Some x) None)

some_wider : (p q : Record → Bool) → ((r : Record) → p r ≡ true → q r ≡ true) → (xs : List Record) → some p xs ≡ true → some q xs ≡ true
some_wider p q w [] h = h
some_wider p q w (x ∷ xs) h =
    ⊎_elim
    (λ e. rw (w x e))
    (λ e. elim (q x) as (λ t. cond t true (some q xs) ≡ true) [ true ↦ refl | false ↦ some_wider p q w xs (rw e at h) ])
    (cases_Bool (p x))

-- Prune

matches_wider : (i h s : ℕ) → h ≤ s → (r : Record) → matches i h r ≡ true → matches i s r ≡ true
matches_wider i h s l r e =
    let parts = and_parts (eqb r.item i) (leb r.version h) e in
    let v = leb-true r.version h parts.1 in
    and_from (eqb r.item i) (leb r.version s) parts.0 (le-leb r.version s (omega arith))

pruned_latest : (h i s : ℕ) → h ≤ s → (rs : List Record) → latest (matches i s) (pruned h rs) ≡ latest (matches i s) rs
pruned_latest h i s l [] = refl
pruned_latest h i s l (r ∷ rs) =
    let p = matches i s in
    let before = pruned_latest h i s l rs in
    ⊎_elim
    (λ e. rw e (before ∙ ⊎_elim
    (λ t.
    let same = eqb-true r.item i (and_parts (eqb r.item i) (leb r.version s) t).0 in
    let later : some (matches i h) rs ≡ true = ap (λ k. some (matches k h) rs) (sym same) ∙ e in
    sym (some_latest p rs _ (some_wider (matches i h) p (matches_wider i h s l) rs later)))
    (λ t. rw t (sym (or_else_none (latest p rs))))
    (cases_Bool (p r))))
    (λ e. rw e (ap (λ o. or_else o (cond (p r) (Some r) None)) before))
    (cases_Bool (some (matches r.item h) rs))

pruned_part : (h : ℕ) (rs : List Record) → Part (pruned h rs) rs
pruned_part h [] = none
pruned_part h (r ∷ rs) =
    elim (some (matches r.item h) rs) as (λ t. Part (cond t (pruned h rs) (r ∷ pruned h rs)) (r ∷ rs)) [
      | true ↦ left_out r (pruned_part h rs)
      | false ↦ kept r (pruned_part h rs)
    ]

pub prune_law : PruneLaw
prune_law m h = record {
  reads = λ i s l. ap value_in (pruned_latest h i s l m.sealed);
  records = pruned_part h m.sealed;
  version = refl;
  capacity = refl;
  staged = refl;
}

-- Reads

beyond_latest : (i v s : ℕ) → v ≤ s → (rs : List Record) → every (at_most v) rs ≡ true → latest (matches i s) rs ≡ latest (matches i v) rs
beyond_latest i v s l [] h = refl
beyond_latest i v s l (r ∷ rs) h =
    let parts = and_parts (at_most v r) (every (at_most v) rs) h in
    let u = leb-true r.version v parts.0 in
    rw (parts.0, le-leb r.version s (omega arith), beyond_latest i v s l rs parts.1)

pub read_law : ReadLaw
read_law m = record {
  staging = λ w i s. elim (has_space m) as (λ t. read_at (cond t (with_staged m (m.staged ++ (w ∷ []))) m) i s ≡ read_at m i s) [ true ↦ refl | false ↦ refl ];
  dropping = λ i s. refl;
  beyond = λ b i s l. ap value_in (beyond_latest i m.version s l m.sealed b.past);
}

-- Seal

dated_none : (i s v : ℕ) → s < v → (ws : List Write) → latest (matches i s) (map (dated v) ws) ≡ None
dated_none i s v h [] = refl
dated_none i s v h (w ∷ ws) = rw (dated_none i s v h ws, and_right (eqb w.item i) (leb v s) (lt-leb v s h))

others_none : (i s v : ℕ) (ws : List Write) → writes_item i ws ≡ false → latest (matches i s) (map (dated v) ws) ≡ None
others_none i s v [] h = refl
others_none i s v (w ∷ ws) h =
    let parts = or_parts (eqb w.item i) (writes_item i ws) h in
    rw (others_none i s v ws parts.1, and_left (eqb w.item i) (leb v s) parts.0)

-- the last of the writes of item i decides, or what was before
module _ (i s v : ℕ) (l : v ≤ s) where
  one_write : (w : Write) (before : Option Record) →
      value_in (or_else (cond (matches i s (dated v w)) (Some (dated v w)) None) before) ≡ cond (eqb w.item i) (value_of w.change) (value_in before)
  one_write w before = rw (le-leb v s l) (elim (eqb w.item i) as (λ t. value_in (or_else (cond (t && true) (Some (dated v w)) None) before) ≡ cond t (value_of w.change) (value_in before)) [ true ↦ refl | false ↦ refl ])

  rewritten_latest : (ws : List Write) (before : Option Record) →
      value_in (or_else (latest (matches i s) (map (dated v) ws)) before) ≡ rewritten i ws (value_in before)
  rewritten_latest [] before = refl
  rewritten_latest (w ∷ ws) before =
      let one = cond (matches i s (dated v w)) (Some (dated v w)) None in
      ap value_in (or_else_assoc (latest (matches i s) (map (dated v) ws)) one before)
      ∙ rewritten_latest ws (or_else one before)
      ∙ ap (rewritten i ws) (one_write w before)

module _ (m : StoreModel) where
  fewer : (i s : ℕ) → latest (matches i s) (map (dated (m.version + 1)) m.staged) ≡ None → read_at (sealed_up m) i s ≡ read_at m i s
  fewer i s e =
      elim (ltb m.version 268435455) as (λ t. read_at (cond t (next_version m) m) i s ≡ read_at m i s) [
        | true ↦ ap value_in (latest_append (matches i s) m.sealed _ ∙ ap (λ o. or_else o (latest (matches i s) m.sealed)) e)
        | false ↦ refl
      ]

  written : Bounded m → m.version < 268435455 → (i : ℕ) →
      read_at (sealed_up m) i (m.version + 1) ≡ rewritten i m.staged (read_at m i m.version)
  written b l i =
      let v = m.version + 1 in
      rw (lt-ltb m.version 268435455 l)
      (ap value_in (latest_append (matches i v) m.sealed (map (dated v) m.staged))
      ∙ rewritten_latest i v v (omega arith) m.staged (latest (matches i v) m.sealed)
      ∙ ap (rewritten i m.staged) ((read_law m).beyond b i v (omega arith)))

  pub seals : Seals m
  seals = record {
    earlier = λ i s l. fewer i s (dated_none i s (m.version + 1) (omega arith) m.staged);
    written = written;
    others = λ i s e. fewer i s (others_none i s (m.version + 1) m.staged e);
    version = λ l. rw (lt-ltb m.version 268435455 l);
    staged = λ l. rw (lt-ltb m.version 268435455 l);
    capacity = elim (ltb m.version 268435455) as (λ t. (cond t (next_version m) m).capacity ≡ m.capacity) [ true ↦ refl | false ↦ refl ];
  }

pub seal_law : SealLaw
seal_law m = seals m
