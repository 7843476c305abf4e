-- What a table of entries holds.
use Rattle.std.specs.Prelude.{map}
use Rattle.logs.specs.declared.table.Table.{Table}
use Rattle.logs.specs.LogModel.{Held, a_holding}
use Rattle.logs.specs.RingModel.{ring_items, ring_size}
use Rattle.logs.specs.RowModel.{row_entry}

abbrev pub table_held : Table → Held
table_held t = a_holding t.floor (map row_entry (ring_items t.rows)) (ring_size t.rows) 1 0
