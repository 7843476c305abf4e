-- Pages: one entry of a log, or what closes a catching up.
use Rattle.std.specs.Prelude.{ℕ, Bool, cond, ◌&&◌, leb, List, ◌∷◌, map, length, Some, None, Option, ◌==◌, nat_le, nat_lt}
use Rattle.std.specs.Borrow.{Bor}
use Rattle.words.specs.declared.changes.Write.{Write}
use Rattle.words.specs.declared.pages.Page.{Page}
use Rattle.words.specs.declared.pages.Page.TheVariants.{Entry, Closing}
use Rattle.words.specs.Bits.{kind_of, load_of, word, site_of, head, is_number, in_range, is_group, every}
use Rattle.words.specs.Writes.{heads, leading, writes_words, all_fit, valid_writes}
use Rattle.words.specs.Messages.{by_three, or_else, AfterThree}

-- A page as a value: an entry (home site, version, ticket, writes), or a closing page (version, place, known numbers).
pub data PageValue : Type 0 where
  an_entry : ℕ → ℕ → ℕ → List Write → PageValue
  a_closing : ℕ → ℕ → List ℕ → PageValue

-- The words of a page.
abbrev pub page_words : PageValue → List ℕ
page_words (an_entry s v t l) = head 8 s (length l) ∷ (word 4 v ∷ (word 3 t ∷ writes_words l))
page_words (a_closing v d ks) = word 9 (length ks) ∷ (word 4 v ∷ (word 10 d ∷ map (word 11) ks))

-- Which pages there are in a group of n sites.
abbrev pub valid_page : ℕ → PageValue → Bool
valid_page n (an_entry s v t l) =
    is_group n && (nat_lt s n && (in_range 1 v && (in_range 1 t && valid_writes l)))
valid_page n (a_closing v d ks) = is_group n && (length ks == n && (in_range v d && every (λ k. leb k v) ks))

-- Whether words can hold the numbers of a page, whatever group it is of.
abbrev pub has_words : PageValue → Bool
has_words (an_entry s v t l) = nat_lt s 16 && (in_range 0 v && (in_range 0 t && (nat_le (length l) 16 && all_fit l)))
has_words (a_closing v d ks) = nat_le (length ks) 8 && (in_range 0 v && (in_range 0 d && every (λ k. leb k 268435455) ks))

-- The entry that the words are, if any.
abbrev pub entry_fits : ℕ → ℕ → ℕ → ℕ → List ℕ → Bool
entry_fits n h v t ws = is_number 4 1 v && (is_number 3 1 t && heads n 8 h ws)

abbrev pub entry_from : ℕ → ℕ → ℕ → ℕ → List ℕ → Option PageValue
entry_from n h v t ws =
    cond (entry_fits n h v t ws) (Some (an_entry (site_of h) (load_of v) (load_of t) (leading ws))) None

abbrev pub read_entry : ℕ → List ℕ → Option PageValue
read_entry n ws = by_three None (entry_from n) ws

-- The word of a known number, not above the limit.
abbrev pub known_fits : ℕ → ℕ → Bool
known_fits limit w = kind_of w == 11 && nat_le (load_of w) limit

-- The closing page that the words are, if any.
abbrev pub closing_fits : ℕ → ℕ → ℕ → ℕ → List ℕ → Bool
closing_fits n h v d ks =
    (kind_of h == 9) && (load_of h == n && (is_number 4 0 v && (is_number 10 (load_of v) d
    && (length ks == n && every (known_fits (load_of v)) ks))))

abbrev pub closing_from : ℕ → ℕ → ℕ → ℕ → List ℕ → Option PageValue
closing_from n h v d ks =
    cond (closing_fits n h v d ks) (Some (a_closing (load_of v) (load_of d) (map load_of ks))) None

abbrev pub read_closing : ℕ → List ℕ → Option PageValue
read_closing n ws = by_three None (closing_from n) ws

-- The page that the words are in a group of n sites, if any.
abbrev pub page_of : ℕ → List ℕ → Option PageValue
page_of n ws = cond (is_group n) (or_else (read_entry n ws) (read_closing n ws)) None

-- A page that borrows its writes or known numbers, as a value.
abbrev pub page_value : Page → PageValue
page_value (Entry s v t ws) = an_entry s v t (leading ws.now)
page_value (Closing v d ks) = a_closing v d (map load_of ks.now)

abbrev pub PageBorrowed : Bor (List ℕ) → Option Page → Type 0
PageBorrowed words None = Unit {0}
PageBorrowed words (Some (Entry s v t ws)) = AfterThree words ws
PageBorrowed words (Some (Closing v d ks)) = AfterThree words ks
