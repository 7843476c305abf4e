-- What a short list holds, and what it holds after a change.
use Rattle.std.specs.Prelude.{ℕ, ◌+◌, ◌<◌, Bool, cond, List, [], ◌∷◌, length, take, insert, nat_lt, Some, None, Option}
use Rattle.few.specs.declared.list.Few.{Few}

-- The items of a list, from the first on.
abbrev pub few_items : {A : Type 0} → {N : ℕ} → Few A N → List A
few_items f = take f.count f.items

-- Whether a list of at most n items can take one more.
abbrev pub has_room : {A : Type 0} → ℕ → List A → Bool
has_room n l = nat_lt (length l) n

-- A list of at most n items after an item was put in: as it was where there is no room.
abbrev pub inserted : {A : Type 0} → ℕ → List A → ℕ → A → List A
inserted n l place x = cond (has_room n l) (insert l place x) l

-- The list of what a question answers at i, i + 1 and so on, up to n, or until it answers none.
pub data Gathers {A : Type 0} (Answers : ℕ → Option A → Type 0) (n : ℕ) : ℕ → List A → Type 0 where
  full : Gathers Answers n n []
  ended : {i : ℕ} → i < n → Answers i None → Gathers Answers n i []
  more : {i : ℕ} → {x : A} → {l : List A} → i < n → Answers i (Some x) → Gathers Answers n (i + 1) l → Gathers Answers n i (x ∷ l)
