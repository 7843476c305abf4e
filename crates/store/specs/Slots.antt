-- Records that stand in slots, and a list of the slots that gives the records their order.
use Rattle.std.specs.Prelude.{◌≡◌, ℕ, zero, suc, ◌+◌, ◌-◌, ◌<◌, cond, List, Option, Some, None, map, length, nat_lt, slice_index, slice_index_or}
use Rattle.store.specs.declared.records.Record.{Record}
use Rattle.store.specs.Rows.{blank, last_place}
use Rattle.store.specs.Links.{chain_at, in_chain}

-- The records in the order of the slots os.
abbrev pub laid : List Record → List ℕ → List Record
laid rs os = map (λ o. slice_index_or rs o blank) os

-- How many records stand up to a place, with the one there.
abbrev pub after : Option ℕ → ℕ
after None = 0
after (Some i) = i + 1

-- The link to the last of that many records: one more than its slot, or 0 for none.
abbrev pub link_to : List ℕ → ℕ → ℕ
link_to os zero = 0
link_to os (suc i) = slice_index os i + 1

-- The slot of the last of that many records, where those are more than n.
abbrev pub later_slot : List ℕ → ℕ → ℕ → Option ℕ
later_slot os n last = cond (nat_lt n last) (Some (slice_index os (last - 1))) None

-- Each slot is below n.
abbrev pub Below : ℕ → List ℕ → Type 0
Below n os = (i : ℕ) → i < length os → slice_index os i < n

-- No slot is listed twice.
abbrev pub Apart : List ℕ → Type 0
Apart os = (i j : ℕ) → (i < length os) × (j < length os) × (slice_index os i ≡ slice_index os j) → i ≡ j

-- The slot of each of the first n records is linked to that of the one before it in its chain.
abbrev pub SlotNexts : List Record → List ℕ → List ℕ → ℕ → Type 0
SlotNexts rs os ns n = (i : ℕ) → i < n → slice_index ns (slice_index os i) ≡ link_to os (last_place (in_chain (chain_at rs i)) rs i)

-- Each head is linked to the last of its chain among the first n.
abbrev pub SlotTops : List Record → List ℕ → List ℕ → ℕ → Type 0
SlotTops rs os hs n = (b : ℕ) → b < 64 → slice_index hs b ≡ link_to os (last_place (in_chain b) rs n)
