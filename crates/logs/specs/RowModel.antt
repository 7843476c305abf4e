-- What the memory of one entry of a flat log holds.
use Rattle.few.specs.Lists.{few_items}
use Rattle.logs.specs.declared.row.FlatEntry.{FlatEntry}
use Rattle.logs.specs.LogModel.{Entry, an_entry}

abbrev pub row_entry : FlatEntry → Entry
row_entry e = an_entry e.home e.ticket (few_items e.writes)
