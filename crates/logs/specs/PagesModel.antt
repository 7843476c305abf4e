-- What pages in a ring hold.
use Rattle.std.specs.Prelude.{◌≡◌, ℕ, true, List, length, take, drop, Some, None, Ok, Err, Option, Result, Vec}
use Rattle.std.specs.declared.alloc.Global.{Global}
use Rattle.logs.specs.declared.pages.Pages.{Pages}
use Rattle.logs.specs.LogModel.{Entry, Held, a_holding, loggable, entry_held}
use Rattle.logs.specs.RingModel.{ring_items, ring_size}
use Rattle.logs.specs.PageWords.{page_words, entries_in}

abbrev pub pages_entries : Pages → List Entry
pages_entries p = entries_in (length (ring_items p.starts)) (ring_items p.words)

abbrev pub pages_held : Pages → Held
pages_held p = a_holding p.floor (pages_entries p) (ring_size p.words) 3 2

-- Where the page of version v begins among the words, if there is one.
abbrev pub Located : Pages → ℕ → Option ℕ → Type 0
Located p v None = entry_held (pages_held p) v ≡ None
Located p v (Some n) =
    (e : Entry) × (entry_held (pages_held p) v ≡ Some e) × (loggable e ≡ true)
    × (take (length (page_words v e)) (drop n (ring_items p.words)) ≡ page_words v e)

-- Pages that hold what they should, or the memory as it was handed over.
abbrev pub MadePages : Held → Vec ℕ Global → Result Pages (Vec ℕ Global) → Type 0
MadePages h memory (Ok p) = pages_held p ≡ h
MadePages h memory (Err back) = back ≡ memory
