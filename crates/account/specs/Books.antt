-- What an accountant holds, and what entering one more message does to it.
use Rattle.std.specs.Prelude.{◌≡◌, ℕ, ◌+◌, ◌<◌, true, false, List, [], ◌∷◌, ◌++◌, map, length, IfOk, Some, None, Ok, Err, vec_items, Option, Result}
use Rattle.words.specs.Bits.{is_group}
use Rattle.words.specs.Messages.{MessageValue, an_edit, a_report}
use Rattle.account.specs.declared.decisions.Decision.{Decision}
use Rattle.account.specs.declared.decisions.Fault.{Fault}
use Rattle.account.specs.declared.decisions.Fault.TheVariants.{GroupSize, TooManyPlaces, NoMemory}
use Rattle.account.specs.declared.accountant.Accountant.{Accountant}
use Rattle.account.specs.Account.{Account, an_account, decide, next, account_after, decisions}
use Rattle.account.specs.Kept.{committed}

-- The number of sites, the number of places decided, and the account after them.
pub record Books : Type 0 where
  pub sites : ℕ
  pub places : ℕ
  pub account : Account

abbrev pub some_books : ℕ → ℕ → Account → Books
some_books n d a = record { sites = n; places = d; account = a }

abbrev pub books : Accountant → Books
books a = some_books a.sites a.places (an_account (map committed (vec_items a.commits)) (vec_items a.known))

-- The books of a list of messages.
abbrev pub books_after : ℕ → List (List ℕ) → Books
books_after n ms = some_books n (length ms) (account_after n ms)

-- Making: the books of no message, or a refusal of a group's size; memory may fail.
abbrev pub Made : ℕ → Result Accountant Fault → Type 0
Made n (Ok a) = (is_group n ≡ true) × (books a ≡ books_after n [])
Made n (Err GroupSize) = is_group n ≡ false
Made n (Err TooManyPlaces) = ⊥
Made n (Err NoMemory) = is_group n ≡ true

-- Only an edit takes memory.
abbrev pub TakesMemory : Option MessageValue → Type 0
TakesMemory None = ⊥
TakesMemory (Some (a_report i r)) = ⊥
TakesMemory (Some (an_edit h t s l)) = Unit {0}

-- Entering a message, or words that are none: the decision and the books after it; a refusal leaves them as they were.
abbrev pub Entered : Books → Books → Option MessageValue → Result Decision Fault → Type 0
Entered b b' m (Ok d) =
    (b.places < 268435455) × (d ≡ decide b.account m) × (b' ≡ some_books b.sites (b.places + 1) (next b.account m))
Entered b b' m (Err GroupSize) = ⊥
Entered b b' m (Err TooManyPlaces) = (b.places ≡ 268435455) × (b' ≡ b)
Entered b b' m (Err NoMemory) = (b.places < 268435455) × TakesMemory m × (b' ≡ b)

-- For every list that led to the books as they stood, the decision is the account's for the list with this message.
abbrev pub Lawful : Books → Books → List ℕ → Result Decision Fault → Type 0
Lawful b b' ws r = (ms : List (List ℕ)) → b ≡ books_after b.sites ms →
    IfOk r (λ d. (b' ≡ books_after b.sites (ms ++ (ws ∷ [])))
    × (decisions b.sites (ms ++ (ws ∷ [])) ≡ decisions b.sites ms ++ (d ∷ [])))
