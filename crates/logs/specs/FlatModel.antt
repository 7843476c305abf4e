-- What a flat log holds, and what making one gives.
use Rattle.std.specs.Prelude.{◌≡◌, Bool, true, false, Ok, Err, Result, Vec}
use Rattle.std.specs.declared.alloc.Global.{Global}
use Rattle.logs.specs.declared.kept.Kept.{Kept}
use Rattle.logs.specs.declared.row.FlatEntry.{FlatEntry}
use Rattle.logs.specs.declared.table.Table.{Table}
use Rattle.logs.specs.LogModel.{LogModel}
use Rattle.logs.specs.KeptModel.{kept_model}
use Rattle.logs.specs.TableModel.{table_held}

abbrev pub flat_model : Kept Table → LogModel
flat_model = kept_model table_held

-- Made as the model says where the test passes; else the memory is handed back.
abbrev pub Made : Bool → LogModel → Vec FlatEntry Global → Result (Kept Table) (Vec FlatEntry Global) → Type 0
Made t m memory (Ok l) = (t ≡ true) × (flat_model l ≡ m)
Made t m memory (Err back) = (t ≡ false) × (back ≡ memory)
