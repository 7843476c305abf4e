-- Facts of every log that a site leans on.
use Rattle.std.proofs.Common.{◌≡◌, ℕ, zero, suc, ◌<◌, ◌≤◌, Bool, true, false, cond, ltb, leb, List, [], ◌∷◌, length, Some, None, Option, sym, refl, ap, ◌∙◌, arith}
use Rattle.std.specs.List.{slice_get}
use Rattle.std.proofs.lemmas.Bool.{and_parts, leb-true}
use Rattle.words.specs.declared.changes.Write.{Write}
use Rattle.logs.specs.LogModel.{Entry, LogModel, Bounded, loggable, all_loggable, entry_at, write_of}
use Rattle.site.specs.Calls.{writes_in}

-- an entry that a log has is one that it takes
pub loggable_at : (es : List Entry) (j : ℕ) (e : Entry) → all_loggable es ≡ true → slice_get es j ≡ Some e → loggable e ≡ true
loggable_at [] j e a h = absurd (let z : ◌≡◌ {A = ℕ} 0 1 = cc in omega arith)
loggable_at (x ∷ es) zero e a h = let f : x ≡ e = cc in ap loggable (sym f) ∙ (and_parts (loggable x) (all_loggable es) a).0
loggable_at (x ∷ es) (suc j) e a h = loggable_at es j e (and_parts (loggable x) (all_loggable es) a).1 h

-- so it has at most 16 writes
few_writes : (e : Entry) → loggable e ≡ true → length e.writes ≤ 16
few_writes e a = leb-true (length e.writes) 16 (and_parts (leb (length e.writes) 16) _ (and_parts (leb e.ticket 268435455) _ (and_parts (ltb e.home 16) _ a).1).1).0

-- and so no version has more
few_held : (b : Bool) (es : List Entry) (j : ℕ) → all_loggable es ≡ true → length (writes_in (cond b (slice_get es j) None)) ≤ 16
few_held false es j a = omega arith
few_held true es j a = go (slice_get es j) (λ e f. loggable_at es j e a f)
  where
    go : (o : Option Entry) → ((e : Entry) → o ≡ Some e → loggable e ≡ true) → length (writes_in o) ≤ 16
    go None f = omega arith
    go (Some e) f = few_writes e (f e refl)

pub few_in : (m : LogModel) (v : ℕ) → Bounded m → length (writes_in (entry_at m v)) ≤ 16
few_in m v b = few_held _ m.entries _ b.readable

nth_within : (l : List Write) (k : ℕ) (w : Write) → slice_get l k ≡ Some w → k < length l
nth_within [] k w h = absurd (let z : ◌≡◌ {A = ℕ} 0 1 = cc in omega arith)
nth_within (x ∷ l) zero w h = omega arith
nth_within (x ∷ l) (suc k) w h = let i = nth_within l k w h in omega arith

held_within : (b : Bool) (es : List Entry) (j k : ℕ) (w : Write) → all_loggable es ≡ true → write_of (cond b (slice_get es j) None) k ≡ Some w → k < 16
held_within true es j k w a h = go (slice_get es j) (λ e f. loggable_at es j e a f) h
  where
    go : (o : Option Entry) → ((e : Entry) → o ≡ Some e → loggable e ≡ true) → write_of o k ≡ Some w → k < 16
    go None f h = absurd (let z : ◌≡◌ {A = ℕ} 0 1 = cc in omega arith)
    go (Some e) f h = omega (arith, nth_within e.writes k w h, few_writes e (f e refl))
held_within false es j k w a h = absurd (let z : ◌≡◌ {A = ℕ} 0 1 = cc in omega arith)

pub write_index : (m : LogModel) (v k : ℕ) (w : Write) → Bounded m → write_of (entry_at m v) k ≡ Some w → k < 16
write_index m v k w b h = held_within _ m.entries _ k w b.readable h
