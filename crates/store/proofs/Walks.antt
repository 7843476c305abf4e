-- Chains through a row of records: the walk along one, and one link more.
use Rattle.std.specs.Prelude.{◌≡◌, ℕ, ◌+◌, ◌-◌, ◌%◌, ◌<◌, ◌≤◌, true, false, List, length, ◌==◌, nat_le, slice_index_or, refl}
use Rattle.std.proofs.Common.{sym, ap, subst, ◌∙◌, arith}
use Rattle.std.proofs.lemmas.Bool.{and_parts, eqb-true, eq-eqb}
use Rattle.store.specs.declared.records.Record.{Record}
use Rattle.store.specs.Links.{chain_at, in_chain}
use Rattle.store.specs.Rows.{last_place}
use Rattle.store.specs.StoreModel.{matches}
use Rattle.store.proofs.Places.{place_le, place_down, place_passes, place_through}

-- a record that is looked for stands in its item's chain
matches_chain : (item at : ℕ) (r : Record) → matches item at r ≡ true → in_chain (item % 64) r ≡ true
matches_chain item at r h =
    let same = eqb-true r.item item (and_parts (r.item == item) (nat_le r.version at) h).0 in
    eq-eqb (r.item % 64) (item % 64) (ap (λ n. n % 64) same)

-- what is left to walk of the first n records, from a place on, has the answer
pub record Walk (item at : ℕ) (rs : List Record) (n place : ℕ) : Type 0 where
  pub within : place ≤ n
  pub here : 0 < place → chain_at rs (place - 1) ≡ item % 64
  pub same : last_place (matches item at) rs place ≡ last_place (matches item at) rs n

module _ (item at : ℕ) (rs : List Record) (n : ℕ) (row : n ≤ length rs) where
  walk_from : (k place : ℕ) → k ≤ n → last_place (matches item at) rs k ≡ last_place (matches item at) rs n →
      place ≡ last_place (in_chain (item % 64)) rs k → Walk item at rs n place
  walk_from k place h s e =
      let q = in_chain (item % 64) in
      subst (Walk item at rs n) (sym e) (record {
        within = omega (arith, place_le q rs k);
        here = λ l. eqb-true (chain_at rs (last_place q rs k - 1)) (item % 64) (place_passes q rs k l);
        same = sym (place_through (matches item at) q (matches_chain item at) rs k) ∙ s;
      })

  pub walk_start : (place : ℕ) → place ≡ last_place (in_chain (item % 64)) rs n → Walk item at rs n place
  walk_start place e = walk_from n place (omega arith) refl e

  module _ (place : ℕ) (w : Walk item at rs n place) where
    pub walk_found : (d : Record) → 0 < place → matches item at (slice_index_or rs (place - 1) d) ≡ true →
        place ≡ last_place (matches item at) rs n
    walk_found d h e =
        let inside = w.within in
        let k : place ≡ place - 1 + 1 = omega arith in
        k ∙ sym (place_down (matches item at) rs place d true h (omega arith) e) ∙ w.same

    pub walk_next : (d : Record) (after : ℕ) → 0 < place → matches item at (slice_index_or rs (place - 1) d) ≡ false →
        after ≡ last_place (in_chain (chain_at rs (place - 1))) rs (place - 1) → Walk item at rs n after
    walk_next d after h e l =
        let inside = w.within in
        walk_from (place - 1) after (omega arith)
        (sym (place_down (matches item at) rs place d false h (omega arith) e) ∙ w.same)
        (l ∙ ap (λ b. last_place (in_chain b) rs (place - 1)) (w.here h))
