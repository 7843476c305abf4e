-- Putting writes into a store one by one.
use Rattle.std.proofs.Common.{◌≡◌, ℕ, ◌+◌, ◌-◌, ◌<◌, ◌≤◌, true, false, List, [], ◌∷◌, ◌++◌, length, get_or, take, sym, ap, ◌∙◌, subst, arith}
use Rattle.std.proofs.lemmas.List.{append_assoc, append-nil, length-append, length-take-le, take_all, take_more}
use Rattle.std.proofs.lemmas.Bool.{ltb-true, ltb-false, le-leb, lt-leb}
use Rattle.words.specs.declared.changes.Write.{Write}
use Rattle.store.specs.Laws.{rewritten}
use Rattle.store.specs.StoreModel.{StoreModel, Bounded, space, has_space, with_staged, staged_on, dropped, sealed_up, read_at}
use Rattle.store.proofs.LawProofs.{seal_law}
use Rattle.replay.specs.Versions.{do_fit, put_in}

-- i of the writes were staged at m, which left it as now
pub record Putting (m : StoreModel) (ws : List Write) (now : StoreModel) (i : ℕ) : Type 0 where
  pub is : now ≡ with_staged m (m.staged ++ take i ws)
  pub fits : i ≤ space m
  pub within : i ≤ length ws

pub putting_none : (m : StoreModel) (ws : List Write) → Putting m ws m 0
putting_none m ws = record { is = ap (with_staged m) (sym (append-nil m.staged)); fits = omega arith; within = omega arith }

module _ {m now : StoreModel} {ws : List Write} {i : ℕ} (p : Putting m ws now i) where
  -- what is left of the space
  left_over : space now ≡ m.capacity - (length m.sealed + (length m.staged + i))
  left_over =
      let within = p.within in
      ap space p.is ∙ rw (length-append m.staged (take i ws), length-take-le i ws within)

  pub putting_more : (d : Write) (after : StoreModel) → i < length ws → has_space now ≡ true → after ≡ staged_on now (get_or ws i d) → Putting m ws after (i + 1)
  putting_more d after h t e =
      let w = get_or ws i d in
      let some = ltb-true 0 (space now) t in
      let rest = left_over in
      record {
        is =
            e ∙ rw (t, p.is) (ap (with_staged m) (append_assoc m.staged (take i ws) (w ∷ []) ∙ ap (λ zs. m.staged ++ zs) (sym (take_more ws i d h))));
        fits = omega arith;
        within = omega arith;
      }

  pub putting_full : i < length ws → has_space now ≡ false → do_fit m ws ≡ false
  putting_full h t =
      let none = ltb-false 0 (space now) t in
      let rest = left_over in
      lt-leb (length ws) (space m) (omega arith)

  -- the write was declined, and what was staged is dropped
  pub putting_dropped : (w : Write) (next after : StoreModel) → has_space now ≡ false → do_fit m ws ≡ false →
      next ≡ staged_on now w → after ≡ dropped next → after ≡ put_in m ws
  putting_dropped w next after t f s e =
      let same : staged_on now w ≡ now = rw t in
      e ∙ ap dropped (s ∙ same ∙ p.is) ∙ rw f

  module _ (end : length ws ≤ i) where
    pub putting_all : do_fit m ws ≡ true
    putting_all = let fits = p.fits in le-leb (length ws) (space m) (omega arith)

    all_staged : now ≡ with_staged m (m.staged ++ ws)
    all_staged = p.is ∙ ap (λ zs. with_staged m (m.staged ++ zs)) (take_all i ws end)

    pub putting_sealed : (after : StoreModel) → after ≡ sealed_up now → after ≡ put_in m ws
    putting_sealed after e = e ∙ ap sealed_up all_staged ∙ rw putting_all

    pub putting_reads : Bounded now → (after : StoreModel) → after ≡ sealed_up now → m.version < 268435455 → (k : ℕ) →
        read_at after k (m.version + 1) ≡ rewritten k (m.staged ++ ws) (read_at m k m.version)
    putting_reads b after e v k =
        ap (λ s. read_at s k (m.version + 1)) (e ∙ ap sealed_up all_staged)
        ∙ (seal_law (with_staged m (m.staged ++ ws))).written (subst Bounded all_staged b) v k
