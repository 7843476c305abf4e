-- What holds of the entries of a table, and of pages.
use Rattle.std.specs.Prelude.{◌≡◌, ℕ, zero, suc, ◌+◌, ◌*◌, List, [], ◌∷◌, length, refl}
use Rattle.std.proofs.Common.{sym, ap, ◌∙◌, arith}
use Rattle.std.proofs.lemmas.List.{length-append, length-map}
use Rattle.words.specs.declared.changes.Write.{Write}
use Rattle.words.specs.Writes.{writes_words}
use Rattle.logs.specs.declared.table.Table.{Table}
use Rattle.logs.specs.declared.pages.Pages.{Pages}
use Rattle.logs.specs.LogModel.{Entry, HeldBounds, cost, total_cost, last_held}
use Rattle.logs.specs.RingModel.{ring_items}
use Rattle.logs.specs.Rings.{ring_room}
use Rattle.logs.specs.RowModel.{row_entry}
use Rattle.logs.specs.TableModel.{table_held}
use Rattle.logs.specs.PageWords.{page_words, pages_words, entries_in}
use Rattle.logs.specs.PagesModel.{pages_entries, pages_held}

-- at a cost of 1 for each entry and none for a write
pub flat_cost : (es : List Entry) → total_cost 1 0 es ≡ length es
flat_cost [] = refl
flat_cost (e ∷ es) = let t = flat_cost es in omega arith

module _ (t : Table) where
  pub table_long : length (table_held t).entries ≡ length (ring_items t.rows)
  table_long = length-map (ring_items t.rows) row_entry

  pub table_last : last_held (table_held t) ≡ t.floor + length (ring_items t.rows)
  table_last = ap (λ n. t.floor + n) table_long

  pub table_bounds : HeldBounds 1 0 (table_held t)
  table_bounds = record {
    entry_cost_held = refl;
    write_cost_held = refl;
    entry_cost_bound = omega arith;
    write_cost_bound = omega arith;
    last_bound = omega (arith, table_last, t.high);
    capacity_bound = omega (arith, t.small);
    affordable = omega (arith, flat_cost (table_held t).entries, table_long, ring_room t.rows);
    readable = t.sound;
  }

-- how many words pages have
pub length_writes : (ws : List Write) → length (writes_words ws) ≡ 2 * length ws
length_writes [] = refl
length_writes (w ∷ ws) = let e = length_writes ws in omega arith

pub length_page : (v : ℕ) (e : Entry) → length (page_words v e) ≡ cost 3 2 (length e.writes)
length_page v e = omega (arith, length_writes e.writes)

pub length_pages : (v : ℕ) (es : List Entry) → length (pages_words v es) ≡ total_cost 3 2 es
length_pages v [] = refl
length_pages v (e ∷ es) =
    length-append (page_words v e) (pages_words (suc v) es) ∙ omega (arith, length_page v e, length_pages (suc v) es)

length_entries : (n : ℕ) (ws : List ℕ) → length (entries_in n ws) ≡ n
length_entries zero ws = refl
length_entries (suc n) ws = ap suc (length_entries n _)

module _ (p : Pages) where
  pub pages_long : length (pages_entries p) ≡ length (ring_items p.starts)
  pages_long = length_entries (length (ring_items p.starts)) (ring_items p.words)

  pub pages_last : last_held (pages_held p) ≡ p.floor + length (ring_items p.starts)
  pages_last = ap (λ n. p.floor + n) pages_long

  -- the entries cost as many words as there are
  pub pages_cost : total_cost 3 2 (pages_entries p) ≡ length (ring_items p.words)
  pages_cost = sym (ap length p.laid ∙ length_pages (p.floor + 1) (pages_entries p))

  pub pages_bounds : HeldBounds 3 2 (pages_held p)
  pages_bounds = record {
    entry_cost_held = refl;
    write_cost_held = refl;
    entry_cost_bound = omega arith;
    write_cost_bound = omega arith;
    last_bound = omega (arith, pages_last, p.high);
    capacity_bound = omega (arith, p.small);
    affordable = omega (arith, pages_cost, ring_room p.words);
    readable = p.sound;
  }
