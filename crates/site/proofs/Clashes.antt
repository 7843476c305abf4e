-- A walk over the entries above a version, and over the writes of one.
use Rattle.std.proofs.Common.{◌≡◌, ℕ, zero, suc, ◌+◌, ◌-◌, ◌<◌, ◌≤◌, max, Bool, false, cond, ◌||◌, List, [], ◌∷◌, map, length, get_or, drop, Some, None, Option, sym, refl, ap, ◌∙◌, add-one, arith}
use lib.ListN.{length-map}
use Rattle.std.specs.Option.{option_map}
use Rattle.std.specs.List.{slice_get, find, range_with_len}
use Rattle.std.proofs.lemmas.List.{at_drop_more, at_drop_all, get_or-map}
use Rattle.std.proofs.lemmas.Option.{slice_get-get_or}
use Rattle.std.proofs.lemmas.Bool.{lt-ltb}
use Rattle.words.specs.declared.changes.Write.{Write}
use Rattle.account.specs.Account.{touches, meets, lowest_clash}
use Rattle.logs.specs.LogModel.{LogModel, Entry, last_version, entry_at, an_entry, write_of}
use Rattle.site.specs.Calls.{writes_in}
use Rattle.site.specs.Certify.{as_commit, clash_above}

-- the writes from number k on, by what the log says is there
meets_from : (l m : List Write) (k : ℕ) (w : Write) (b : Bool) → slice_get l k ≡ Some w → touches w.item m ≡ b →
    meets (drop k l) m ≡ (b || meets (drop (suc k) l) m)
meets_from [] m k w b h e = absurd (let z : ◌≡◌ {A = ℕ} 0 1 = cc in omega arith)
meets_from (x ∷ l) m zero w b h e = let f : x ≡ w = cc in ap (λ y. touches y.item m || meets l m) f ∙ ap (λ c. c || meets l m) e
meets_from (x ∷ l) m (suc k) w b h e = meets_from l m k w b h e

meets_end : (l m : List Write) (k : ℕ) → slice_get l k ≡ None → meets (drop k l) m ≡ false
meets_end [] m zero h = refl
meets_end [] m (suc k) h = refl
meets_end (x ∷ l) m zero h = absurd (let z : ◌≡◌ {A = ℕ} 0 1 = cc in omega arith)
meets_end (x ∷ l) m (suc k) h = meets_end l m k h

pub meets_more : (o : Option Entry) (m : List Write) (k : ℕ) (w : Write) (b : Bool) → write_of o k ≡ Some w → touches w.item m ≡ b →
    meets (drop k (writes_in o)) m ≡ (b || meets (drop (k + 1) (writes_in o)) m)
meets_more None m k w b h e = absurd (let z : ◌≡◌ {A = ℕ} 0 1 = cc in omega arith)
meets_more (Some x) m k w b h e = meets_from x.writes m k w b h e ∙ ap (λ n. b || meets (drop n x.writes) m) (sym (add-one k))

pub meets_done : (o : Option Entry) (m : List Write) (k : ℕ) → write_of o k ≡ None → meets (drop k (writes_in o)) m ≡ false
meets_done None m zero h = refl
meets_done None m (suc k) h = refl
meets_done (Some x) m k h = meets_end x.writes m k h

module _ (m : LogModel) (v : ℕ) (above : m.floor ≤ v) where
  -- the entries above version v, by the next one
  pub clash_more : (l : List Write) (b : Bool) → v < last_version m → meets (writes_in (entry_at m (v + 1))) l ≡ b →
      lowest_clash l v (drop (v - m.floor) (map as_commit m.entries))
      ≡ cond b (Some (v + 1)) (lowest_clash l (v + 1) (drop (v + 1 - m.floor) (map as_commit m.entries)))
  clash_more l b within e =
      let d = an_entry 0 0 [] in
      let i = v - m.floor in
      let k : i < length m.entries = omega arith in
      let j : i < length (map as_commit m.entries) = omega (arith, length-map m.entries as_commit) in
      let there : entry_at m (v + 1) ≡ Some (get_or m.entries i d) =
      ap (λ x. cond x (slice_get m.entries (v + 1 - (m.floor + 1))) None) (lt-ltb m.floor (v + 1) (omega arith)) ∙ ap (slice_get m.entries) (omega arith) ∙ slice_get-get_or m.entries i d k in
      at_drop_more (lowest_clash l v) (map as_commit m.entries) i (as_commit d) j
      ∙ ap (λ x. cond x (Some (suc v)) (lowest_clash l (suc v) (drop (i + 1) (map as_commit m.entries))))
      (ap (λ c. meets c.writes l) (get_or-map as_commit m.entries i d (as_commit d) k) ∙ ap (λ o. meets (writes_in o) l) (sym there) ∙ e)
      ∙ ap (λ n. cond b (Some n) (lowest_clash l n (drop (i + 1) (map as_commit m.entries)))) (sym (add-one v))
      ∙ ap (λ n. cond b (Some (v + 1)) (lowest_clash l (v + 1) (drop n (map as_commit m.entries)))) (omega arith)

  pub clash_done : (l : List Write) → last_version m ≤ v → lowest_clash l v (drop (v - m.floor) (map as_commit m.entries)) ≡ None
  clash_done l past = at_drop_all (lowest_clash l v) (map as_commit m.entries) (v - m.floor) (omega (arith, length-map m.entries as_commit))

-- the first version that clashes, of those above version v
abbrev pub clashes : LogModel → List Write → ℕ → Bool
clashes m l v = meets (writes_in (entry_at m v)) l

pub first_clash : (m : LogModel) (l : List Write) (n v : ℕ) → m.floor ≤ v → n ≡ last_version m - v →
    find (clashes m l) (range_with_len (v + 1) n) ≡ lowest_clash l v (drop (v - m.floor) (map as_commit m.entries))
first_clash m l zero v above e = sym (clash_done m v above l (omega arith))
first_clash m l (suc n) v above e =
    ap (λ o. cond (clashes m l (v + 1)) (Some (v + 1)) o) (first_clash m l n (v + 1) (omega arith) (omega arith))
    ∙ sym (clash_more m v above l (clashes m l (v + 1)) (omega arith) refl)

-- from the snapshot, or from the floor if that is higher
pub clash_from : (m : LogModel) (l : List Write) (s first last : ℕ) → first ≡ max s m.floor + 1 → last ≡ last_version m + 1 →
    find (clashes m l) (range_with_len first (last - first)) ≡ clash_above m s l
clash_from m l s first last e f =
    ap (λ a. find (clashes m l) (range_with_len a (last - first))) e
    ∙ first_clash m l (last - first) (max s m.floor) (omega arith) (omega arith)
    ∙ ap (λ n. lowest_clash l (max s m.floor) (drop n (map as_commit m.entries))) (omega arith)

pub same_option : (o : Option ℕ) → o ≡ option_map (λ x. x) o
same_option None = refl
same_option (Some x) = refl
