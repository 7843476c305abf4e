-- What a log can hold: entry by entry, and write by write.
use Rattle.std.specs.Prelude.{◌≡◌, ℕ, zero, suc, ◌<◌, ◌≤◌, true, List, [], ◌∷◌, ◌++◌, length, take, drop, nat_le, nat_lt, slice_index_or, refl}
use Rattle.std.proofs.Common.{arith}
use Rattle.std.proofs.lemmas.Bool.{and_parts, ltb-true, leb-true}
use Rattle.words.specs.declared.changes.Write.{Write}
use Rattle.words.specs.Writes.{change_fits, write_fits, all_fit}
use Rattle.logs.specs.LogModel.{Entry, limit, loggable, all_loggable}

-- What a loggable entry is.
pub loggable_parts : (e : Entry) → loggable e ≡ true → (e.home < 16) × (e.ticket ≤ limit) × (length e.writes ≤ 16) × (all_fit e.writes ≡ true)
loggable_parts e l =
    let p = and_parts (nat_lt e.home 16) _ l in
    let q = and_parts (nat_le e.ticket limit) _ p.1 in
    let r = and_parts (nat_le (length e.writes) 16) (all_fit e.writes) q.1 in
    (ltb-true _ _ p.0, leb-true _ _ q.0, leb-true _ _ r.0, r.1)

pub write_parts : (w : Write) → write_fits 0 w ≡ true → (w.item < 268435456) × (change_fits w.change ≡ true)
write_parts w f =
    let p = and_parts (nat_le 0 w.item) _ f in
    let q = and_parts (nat_lt w.item 268435456) (change_fits w.change) p.1 in
    (ltb-true _ _ q.0, q.1)

-- entries of which one more is held, or the first are not any more
pub loggable_push : (es : List Entry) (e : Entry) → all_loggable es ≡ true → loggable e ≡ true → all_loggable (es ++ (e ∷ [])) ≡ true
loggable_push [] e h l = rw l
loggable_push (x ∷ xs) e h l =
    let p = and_parts (loggable x) (all_loggable xs) h in
    rw p.0 (loggable_push xs e p.1 l)

pub loggable_drop : (n : ℕ) (es : List Entry) → all_loggable es ≡ true → all_loggable (drop n es) ≡ true
loggable_drop zero es h = h
loggable_drop (suc n) [] h = refl
loggable_drop (suc n) (e ∷ es) h = loggable_drop n es (and_parts (loggable e) (all_loggable es) h).1

pub loggable_take : (n : ℕ) (es : List Entry) → all_loggable es ≡ true → all_loggable (take n es) ≡ true
loggable_take zero es l = refl
loggable_take (suc n) [] l = refl
loggable_take (suc n) (e ∷ es) l =
    let p = and_parts (loggable e) (all_loggable es) l in rw p.0 (loggable_take n es p.1)

pub loggable_at : (i : ℕ) (es : List Entry) (d : Entry) → i < length es → all_loggable es ≡ true → loggable (slice_index_or es i d) ≡ true
loggable_at i [] d h l = absurd (omega arith)
loggable_at zero (e ∷ es) d h l = (and_parts (loggable e) (all_loggable es) l).0
loggable_at (suc i) (e ∷ es) d h l = loggable_at i es d (omega arith) (and_parts (loggable e) (all_loggable es) l).1

pub fits_at : (k : ℕ) (ws : List Write) (d : Write) → k < length ws → all_fit ws ≡ true → write_fits 0 (slice_index_or ws k d) ≡ true
fits_at k [] d h f = absurd (omega arith)
fits_at zero (w ∷ ws) d h f = (and_parts (write_fits 0 w) (all_fit ws) f).0
fits_at (suc k) (w ∷ ws) d h f = fits_at k ws d (omega arith) (and_parts (write_fits 0 w) (all_fit ws) f).1
