-- Linked records, and the walk along one of their chains.
use Rattle.std.specs.Prelude.{◌≡◌, ℕ, ◌-◌, ◌%◌, ◌<◌, ◌≤◌, true, false, List, Some, None, length, get_or, slice_index, refl}
use Rattle.std.proofs.Common.{sym, ap, subst, ◌∙◌, ⊎_elim, arith}
use Rattle.std.proofs.lemmas.Bool.{eq-eqb, lt-ltb, le-ltb, cases_eq}
use Rattle.store.specs.declared.links.Linked.{Linked}
use Rattle.store.specs.declared.records.Record.{Record}
use Rattle.store.specs.ChainsRow.{laid_long}
use Rattle.store.specs.Links.{chain_at, in_chain}
use Rattle.store.specs.Rows.{blank, last_place}
use Rattle.store.specs.Slots.{laid, link_to, later_slot}
use Rattle.store.specs.StoreModel.{matches}
use Rattle.store.proofs.Places.{place_le, place_least}
use Rattle.store.proofs.SlotWalks.{place_of, place_of_link, laid_at, link_here, link_apart}
use Rattle.store.proofs.Walks.{Walk, walk_start, walk_found, walk_next}

abbrev pub linked_row : Linked → List Record
linked_row s = laid s.row.records.now s.row.slots.now

pub linked_long : (s : Linked) → s.count ≤ length (linked_row s)
linked_long s = let within = s.within in omega (arith, laid_long s.row.records.now s.row.slots.now)

-- the walk has come to a link, and stops at the link to the first `floor` records
pub record Following (s : Linked) (item at floor link : ℕ) : Type 0 where
  pub place : ℕ
  pub is : link ≡ link_to s.row.slots.now place
  pub walk : Walk item at (linked_row s) s.count place
  pub above : floor ≤ place

module _ (s : Linked) (item at floor : ℕ) (inside : floor ≤ s.count) (chained : 0 < floor → chain_at (linked_row s) (floor - 1) ≡ item % 64) where
  -- the floor is in the item's chain
  least : (k : ℕ) → floor ≤ k → floor ≤ last_place (in_chain (item % 64)) (linked_row s) k
  least k h = place_least (in_chain (item % 64)) (linked_row s) floor k h (λ l. eq-eqb (chain_at (linked_row s) (floor - 1)) (item % 64) (chained l))

  pub find_start : Following s item at floor (slice_index s.heads.now (item % 64))
  find_start =
      let small : item % 64 < 64 = omega arith in
      record {
        place = last_place (in_chain (item % 64)) (linked_row s) s.count;
        is = s.topped (item % 64) small;
        walk = walk_start item at (linked_row s) s.count (linked_long s) _ refl;
        above = least s.count inside;
      }

  module _ (link : ℕ) (f : Following s item at floor link) where
    place_within : f.place ≤ s.count
    place_within = f.walk.within

    module _ (going : link ≡ link_to s.row.slots.now floor → ⊥) where
      -- the walk has not come to the floor
      place_on : floor < f.place
      place_on =
          let h = f.above in
          ⊎_elim
          (λ e. absurd (going (f.is ∙ ap (link_to s.row.slots.now) (sym e))))
          (λ e. omega arith)
          (cases_eq floor f.place)

      place_slot : link - 1 ≡ slice_index s.row.slots.now (f.place - 1)
      place_slot = let h = place_on in omega (arith, f.is, link_here s.row.slots.now f.place (omega arith))

      place_inside : f.place - 1 < length s.row.slots.now
      place_inside = let within = s.within in omega (arith, place_on, place_within)

      -- the record that is read is the one at the place
      place_record : get_or (linked_row s) (f.place - 1) blank ≡ get_or s.row.records.now (link - 1) blank
      place_record =
          laid_at s.row.records.now s.row.slots.now (f.place - 1) place_inside
          ∙ ap (λ i. get_or s.row.records.now i blank) (sym place_slot)

      pub find_found : matches item at (get_or s.row.records.now (link - 1) blank) ≡ true →
          Some (link - 1) ≡ later_slot s.row.slots.now floor (last_place (matches item at) (linked_row s) s.count)
      find_found t =
          let h = place_on in
          let last = last_place (matches item at) (linked_row s) s.count in
          let found : f.place ≡ last_place (matches item at) (linked_row s) s.count =
          walk_found item at (linked_row s) s.count (linked_long s) f.place f.walk blank (omega arith) (ap (matches item at) place_record ∙ t) in
          rw (lt-ltb floor last (omega arith)) (ap Some (place_slot ∙ ap (λ k. slice_index s.row.slots.now (k - 1)) found))

      -- the link that is followed
      place_next : slice_index s.next.now (link - 1) ≡ link_to s.row.slots.now (last_place (in_chain (chain_at (linked_row s) (f.place - 1))) (linked_row s) (f.place - 1))
      place_next =
          let h = place_on in
          let w = place_within in
          ap (λ o. slice_index s.next.now o) place_slot ∙ s.linked (f.place - 1) (omega arith)

      pub find_next : matches item at (get_or s.row.records.now (link - 1) blank) ≡ false → Following s item at floor (slice_index s.next.now (link - 1))
      find_next t =
          let h = place_on in
          let w = place_within in
          let k = f.place - 1 in
          let here : chain_at (linked_row s) (f.place - 1) ≡ item % 64 = f.walk.here (omega arith) in
          record {
            place = last_place (in_chain (chain_at (linked_row s) k)) (linked_row s) k;
            is = place_next;
            walk = walk_next item at (linked_row s) s.count (linked_long s) f.place f.walk blank _ (omega arith) (ap (matches item at) place_record ∙ t) refl;
            above = subst (λ b. floor ≤ last_place (in_chain b) (linked_row s) k) (sym here) (least k (omega arith));
          }

      pub find_less : place_of s.row.slots.now s.count (slice_index s.next.now (link - 1)) < place_of s.row.slots.now s.count link
      find_less =
          let h = place_on in
          let w = place_within in
          let os = s.row.slots.now in
          let k = f.place - 1 in
          let lower : last_place (in_chain (chain_at (linked_row s) (f.place - 1))) (linked_row s) (f.place - 1) ≤ f.place - 1 =
          place_le (in_chain (chain_at (linked_row s) k)) (linked_row s) k in
          omega (
            arith,
            ap (place_of os s.count) place_next ∙ place_of_link os s.row.apart s.count _ (omega arith) s.within,
            ap (place_of os s.count) f.is ∙ place_of_link os s.row.apart s.count f.place w s.within,
          )

    -- the walk has come to the floor
    pub find_end : link ≡ link_to s.row.slots.now floor → None ≡ later_slot s.row.slots.now floor (last_place (matches item at) (linked_row s) s.count)
    find_end e =
        let w = place_within in
        let within = s.within in
        let last = last_place (matches item at) (linked_row s) s.count in
        let here : f.place ≡ floor = link_apart s.row.slots.now s.row.apart f.place floor (omega arith) (omega arith) (sym f.is ∙ e) in
        let lower = place_le (matches item at) (linked_row s) f.place in
        let same = f.walk.same in
        rw (le-ltb floor last (omega arith))
