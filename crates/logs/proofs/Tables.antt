-- Entries in the rows of a table.
use Rattle.std.specs.Prelude.{◌≡◌, ℕ, ◌+◌, ◌-◌, ◌<◌, ◌≤◌, min, true, [], ◌∷◌, ◌++◌, map, length, drop, Some, nat_lt, slice_index_or}
use Rattle.std.proofs.Common.{sym, ap, ◌∙◌, arith}
use Rattle.std.proofs.lemmas.List.{length_push, length-drop, get_or-map, map_push, drop-map}
use Rattle.std.proofs.lemmas.Bool.{ltb-true}
use Rattle.std.proofs.lemmas.Bool.Decides.{nat_tests}
use Rattle.logs.specs.declared.ring.Ring.{Ring}
use Rattle.logs.specs.declared.row.FlatEntry.{FlatEntry}
use Rattle.logs.specs.declared.table.Table.{Table}
use Rattle.logs.specs.LogModel.{Entry, limit, a_holding, last_held, all_loggable, fits, can_append, held_above, entry_held}
use Rattle.logs.specs.RingModel.{ring_items, ring_size}
use Rattle.logs.specs.RowModel.{row_entry}
use Rattle.logs.specs.TableModel.{table_held}
use Rattle.logs.specs.HolderBounds.{flat_cost, table_long, table_last}
use Rattle.logs.proofs.Holding.{entry_some, append_parts, above_more}
use Rattle.logs.proofs.Loggable.{loggable_push, loggable_drop}

module _ (t : Table) where
  pub table_fits : (n : ℕ) → nat_lt (length (ring_items t.rows)) (ring_size t.rows) ≡ fits (table_held t) n
  table_fits n =
      let c = flat_cost (table_held t).entries in
      let l = table_long t in
      grind (arith, nat_tests)

  pub table_open : (e : Entry) → can_append (table_held t) e ≡ true → length (ring_items t.rows) < ring_size t.rows
  table_open e can = ltb-true _ _ (table_fits (length e.writes) ∙ (append_parts (table_held t) e can).1)

  pub table_row : (v i : ℕ) (x : FlatEntry) → v ≡ t.floor + 1 + i → i < length (ring_items t.rows) → x ≡ slice_index_or (ring_items t.rows) i x →
      entry_held (table_held t) v ≡ Some (row_entry x)
  table_row v i x p l q =
      entry_some (table_held t) v i (row_entry x) p (omega (arith, table_long t))
      (ap row_entry q ∙ sym (get_or-map row_entry (ring_items t.rows) i x (row_entry x) l))

-- one more row, which holds the entry
module _ (t : Table) (e : Entry) (can : can_append (table_held t) e ≡ true) (x : FlatEntry) (holds : row_entry x ≡ e)
    (rows : Ring FlatEntry) (items : ring_items rows ≡ ring_items t.rows ++ (x ∷ [])) (size : ring_size rows ≡ ring_size t.rows) where
  pushed_entries : map row_entry (ring_items rows) ≡ (table_held t).entries ++ (e ∷ [])
  pushed_entries =
      ap (map row_entry) items ∙ map_push row_entry (ring_items t.rows) x ∙ ap (λ z. (table_held t).entries ++ (z ∷ [])) holds

  pub pushed_high : t.floor + length (ring_items rows) ≤ limit
  pushed_high =
      omega (arith, ap length items, length_push (ring_items t.rows) x, (append_parts (table_held t) e can).2, table_last t)

  pub pushed_sound : all_loggable (map row_entry (ring_items rows)) ≡ true
  pushed_sound =
      ap all_loggable pushed_entries ∙ loggable_push (table_held t).entries e t.sound (append_parts (table_held t) e can).0

-- without the rows up to version b, the smaller of v and the last version
module _ (t : Table) (v b : ℕ) (bound : b ≡ min v (last_held (table_held t))) (above : t.floor < b)
    (rows : Ring FlatEntry) (items : ring_items rows ≡ drop (b - t.floor) (ring_items t.rows)) (size : ring_size rows ≡ ring_size t.rows) where
  left_entries : map row_entry (ring_items rows) ≡ drop (b - t.floor) (table_held t).entries
  left_entries = ap (map row_entry) items ∙ sym (drop-map row_entry (b - t.floor) (ring_items t.rows))

  pub left_high : b + length (ring_items rows) ≤ limit
  left_high = omega (arith, ap length items, length-drop (b - t.floor) (ring_items t.rows), t.high, table_last t)

  pub left_sound : all_loggable (map row_entry (ring_items rows)) ≡ true
  left_sound = ap all_loggable left_entries ∙ loggable_drop (b - t.floor) (table_held t).entries t.sound

  pub left_held : a_holding b (map row_entry (ring_items rows)) (ring_size rows) 1 0 ≡ held_above (table_held t) v
  left_held =
      ap (λ es. a_holding b es (ring_size rows) 1 0) left_entries
      ∙ ap (λ n. a_holding b (drop (b - t.floor) (table_held t).entries) n 1 0) size
      ∙ above_more (table_held t) v b bound above
