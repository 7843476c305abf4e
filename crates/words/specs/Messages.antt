-- Messages: what words say, the words that say it, and that each message has one spelling.
use Rattle.std.specs.Prelude.{◌≡◌, ℕ, ◌+◌, Bool, true, cond, ◌&&◌, List, [], ◌∷◌, length, drop, Some, None, Option, ◌==◌, nat_lt}
use Rattle.std.specs.Borrow.{Bor}
use Rattle.words.specs.declared.changes.Write.{Write}
use Rattle.words.specs.declared.messages.Message.{Message}
use Rattle.words.specs.declared.messages.Message.TheVariants.{Edit, Report}
use Rattle.words.specs.Bits.{kind_of, load_of, word, site_of, count_of, clear_between, head, is_number, in_range, is_group}
use Rattle.words.specs.Writes.{heads, leading, writes_words, valid_writes}

-- A message as a value: an edit (home site, ticket, snapshot, writes) or a report (site, version).
pub data MessageValue : Type 0 where
  an_edit : ℕ → ℕ → ℕ → List Write → MessageValue
  a_report : ℕ → ℕ → MessageValue

-- The words of a message.
abbrev pub message_words : MessageValue → List ℕ
message_words (an_edit s t v l) = head 1 s (length l) ∷ (word 3 t ∷ (word 4 v ∷ writes_words l))
message_words (a_report s v) = head 2 s 0 ∷ (word 4 v ∷ [])

-- Which messages there are in a group of n sites.
abbrev pub valid_message : ℕ → MessageValue → Bool
valid_message n (an_edit s t v l) =
    is_group n && (nat_lt s n && (in_range 1 t && (in_range 0 v && valid_writes l)))
valid_message n (a_report s v) = is_group n && (nat_lt s n && in_range 0 v)

-- Words taken as three and the rest.
abbrev pub by_three : {X : Type 0} → X → (ℕ → ℕ → ℕ → List ℕ → X) → List ℕ → X
by_three none f [] = none
by_three none f (a ∷ []) = none
by_three none f (a ∷ (b ∷ [])) = none
by_three none f (a ∷ (b ∷ (c ∷ ws))) = f a b c ws

-- The edit that the words are, if any.
abbrev pub edit_fits : ℕ → ℕ → ℕ → ℕ → List ℕ → Bool
edit_fits n h t v ws = is_number 3 1 t && (is_number 4 0 v && heads n 1 h ws)

abbrev pub edit_from : ℕ → ℕ → ℕ → ℕ → List ℕ → Option MessageValue
edit_from n h t v ws =
    cond (edit_fits n h t v ws) (Some (an_edit (site_of h) (load_of t) (load_of v) (leading ws))) None

abbrev pub read_edit : ℕ → List ℕ → Option MessageValue
read_edit n ws = by_three None (edit_from n) ws

-- The report that the words are, if any.
abbrev pub report_fits : ℕ → ℕ → ℕ → Bool
report_fits n h v =
    (kind_of h == 2) && (clear_between h && (count_of h == 0 && (nat_lt (site_of h) n && is_number 4 0 v)))

abbrev pub read_report : ℕ → List ℕ → Option MessageValue
read_report n [] = None
read_report n (h ∷ []) = None
read_report n (h ∷ (v ∷ [])) = cond (report_fits n h v) (Some (a_report (site_of h) (load_of v))) None
read_report n (h ∷ (v ∷ (x ∷ ws))) = None

abbrev pub or_else : {X : Type 0} → Option X → Option X → Option X
or_else None o = o
or_else (Some m) o = Some m

-- The message that the words are in a group of n sites, if any.
abbrev pub message_of : ℕ → List ℕ → Option MessageValue
message_of n ws = cond (is_group n) (or_else (read_edit n ws) (read_report n ws)) None

-- A message that borrows its writes, as a value.
abbrev pub message_value : Message → MessageValue
message_value (Edit s t v ws) = an_edit s t v (leading ws.now)
message_value (Report s v) = a_report s v

-- A part of the words handed in: those after the first three, in their own memory (a word has four bytes).
abbrev pub AfterThree : Bor (List ℕ) → Bor (List ℕ) → Type 0
AfterThree words part = (part.ref_ptr ≡ (words.ref_ptr.0, words.ref_ptr.1 + 12)) × (part.now ≡ drop 3 words.now)

abbrev pub Borrowed : Bor (List ℕ) → Option Message → Type 0
Borrowed words None = Unit {0}
Borrowed words (Some (Edit s t v ws)) = AfterThree words ws
Borrowed words (Some (Report s v)) = Unit {0}

-- One spelling: the words are read as m exactly where they are m's words and m is one of the group's.
abbrev pub OneSpelling : {X : Type 0} → (X → List ℕ) → (X → Bool) → List ℕ → Option X → Type 0
OneSpelling spelt valid ws r =
    (m : _) → (r ≡ Some m → (ws ≡ spelt m) × (valid m ≡ true)) × (ws ≡ spelt m → valid m ≡ true → r ≡ Some m)

-- The answer of the message check: 1 edit, 2 report, 0 neither.
abbrev pub message_kind : Option MessageValue → ℕ
message_kind None = 0
message_kind (Some (an_edit s t v l)) = 1
message_kind (Some (a_report s v)) = 2
