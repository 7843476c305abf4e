-- Entries as words: each as its page, one page after another.
use Rattle.std.specs.Prelude.{ℕ, zero, suc, ◌+◌, List, [], ◌∷◌, ◌++◌, length, take, drop, slice_index}
use Rattle.words.specs.Bits.{load_of, site_of, count_of}
use Rattle.words.specs.Writes.{leading}
use Rattle.words.specs.Pages.{page_words as spelt, an_entry as entry_page}
use Rattle.logs.specs.LogModel.{Entry, an_entry, cost}

-- The page of version v: head, version, ticket, then the writes.
abbrev pub page_words : ℕ → Entry → List ℕ
page_words v e = spelt (entry_page e.home v e.ticket e.writes)

-- The pages of entries, of which the first has version v.
abbrev pub pages_words : ℕ → List Entry → List ℕ
pages_words v [] = []
pages_words v (e ∷ es) = page_words v e ++ pages_words (suc v) es

-- Where each page begins, if the first begins at n.
abbrev pub begins : ℕ → List Entry → List ℕ
begins n [] = []
begins n (e ∷ es) = n ∷ begins (n + cost 3 2 (length e.writes)) es

-- How many words the page has that begins the words, and the entry that it says.
abbrev pub page_length : List ℕ → ℕ
page_length ws = cost 3 2 (count_of (slice_index ws 0))

abbrev pub entry_in : List ℕ → Entry
entry_in ws = an_entry (site_of (slice_index ws 0)) (load_of (slice_index ws 2)) (leading (drop 3 (take (page_length ws) ws)))

-- The entries that n pages say.
abbrev pub entries_in : ℕ → List ℕ → List Entry
entries_in zero ws = []
entries_in (suc n) ws = entry_in ws ∷ entries_in n (drop (page_length ws) ws)
