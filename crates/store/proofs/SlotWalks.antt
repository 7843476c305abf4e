-- Links of slots: where one leads, and one link more.
use Rattle.std.specs.Prelude.{◌≡◌, ℕ, zero, suc, ◌+◌, ◌-◌, ◌<◌, ◌≤◌, cond, List, length, get_or, ◌==◌, slice_index, slice_index_or, slice_set}
use Rattle.std.proofs.Common.{sym, ap, ◌∙◌, ⊎_elim, add-one, arith, below_more}
use Rattle.std.proofs.lemmas.List.{get_or-set_same, get_or-set_other, get_or-map}
use Rattle.std.proofs.lemmas.Bool.{eq-eqb, ne_eqb, cases_eq}
use Rattle.store.specs.declared.records.Record.{Record}
use Rattle.store.specs.Links.{chain_at, in_chain}
use Rattle.store.specs.Rows.{blank, last_place}
use Rattle.store.specs.Slots.{laid, link_to, Apart, SlotNexts, SlotTops}

pub link_here : (os : List ℕ) (p : ℕ) → 0 < p → link_to os p ≡ slice_index os (p - 1) + 1
link_here os zero h = absurd (omega arith)
link_here os (suc i) h = let e : suc i - 1 ≡ i = omega arith in rw e

-- the record at a place, in its slot
pub laid_at : (rs : List Record) (os : List ℕ) (i : ℕ) → i < length os → slice_index_or (laid rs os) i blank ≡ slice_index_or rs (slice_index os i) blank
laid_at rs os i h = get_or-map (λ o. get_or rs o blank) os i 0 blank h

-- The place that a link leads to

abbrev pub place_of : List ℕ → ℕ → ℕ → ℕ
place_of os zero link = 0
place_of os (suc n) link = cond (slice_index os n + 1 == link) (suc n) (place_of os n link)

module _ (os : List ℕ) (apart : Apart os) where
  pub place_of_link : (n p : ℕ) → p ≤ n → n ≤ length os → place_of os n (link_to os p) ≡ p
  place_of_link zero p h l = omega arith
  place_of_link (suc n) zero h l = rw (ne_eqb (slice_index os n + 1) 0 (λ q. omega arith)) (place_of_link n zero (omega arith) (omega arith))
  place_of_link (suc n) (suc p) h l =
      ⊎_elim
      (λ e. rw (eq-eqb (slice_index os n + 1) (slice_index os p + 1) (ap (λ k. slice_index os k + 1) (sym e))) (ap suc (sym e)))
      (λ e.
      let other : get_or os n 0 + 1 ≡ slice_index os p + 1 → ⊥ = λ q. e (apart p n (omega arith, omega arith, omega arith)) in
      rw (ne_eqb (slice_index os n + 1) (slice_index os p + 1) other) (place_of_link n (suc p) (omega arith) (omega arith)))
      (cases_eq p n)

  pub link_apart : (p q : ℕ) → p ≤ length os → q ≤ length os → link_to os p ≡ link_to os q → p ≡ q
  link_apart p q h l e =
      sym (place_of_link (length os) p h (omega arith)) ∙ ap (place_of os (length os)) e ∙ place_of_link (length os) q l (omega arith)

-- one slot more is linked; b is its chain
module _ (rs : List Record) (os : List ℕ) (n b : ℕ) (chain : chain_at rs n ≡ b) where
  pub slot_nexts_more : (ns : List ℕ) (v : ℕ) → n < length os → slice_index os n < length ns → Apart os → SlotNexts rs os ns n →
      v ≡ link_to os (last_place (in_chain b) rs n) → SlotNexts rs os (slice_set ns (slice_index os n) v) (n + 1)
  slot_nexts_more ns v h l apart all e =
      below_more (λ i. slice_index (slice_set ns (slice_index os n) v) (slice_index os i) ≡ link_to os (last_place (in_chain (chain_at rs i)) rs i)) n
      (λ i k. get_or-set_other ns (slice_index os n) (slice_index os i) v 0 (λ q. let same = apart i n (omega arith, h, q) in omega arith) ∙ all i k)
      (get_or-set_same ns (slice_index os n) v 0 l ∙ e ∙ ap (λ k. link_to os (last_place (in_chain k) rs n)) (sym chain))

  pub slot_tops_more : (hs : List ℕ) → 64 ≤ length hs → SlotTops rs os hs n → SlotTops rs os (slice_set hs b (slice_index os n + 1)) (n + 1)
  slot_tops_more hs h all k l =
      rw (add-one n, chain)
      (⊎_elim
      (λ e. rw (eq-eqb b k e, e) (get_or-set_same hs k (slice_index os n + 1) 0 (omega arith)))
      (λ e. rw (ne_eqb b k e) (get_or-set_other hs b k (slice_index os n + 1) 0 (λ q. e (sym q)) ∙ all k l))
      (cases_eq b k))
