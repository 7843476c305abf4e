-- What a packed log holds, and what making one gives.
use Rattle.std.specs.Prelude.{◌≡◌, ℕ, Bool, true, Ok, Err, Result, Vec}
use Rattle.std.specs.declared.alloc.Global.{Global}
use Rattle.logs.specs.declared.kept.Kept.{Kept}
use Rattle.logs.specs.declared.pages.Pages.{Pages}
use Rattle.logs.specs.LogModel.{LogModel}
use Rattle.logs.specs.KeptModel.{kept_model}
use Rattle.logs.specs.PagesModel.{pages_held}

abbrev pub packed_model : Kept Pages → LogModel
packed_model = kept_model pages_held

-- Made as the model says, and only where the test passes; else the memory is handed back.
abbrev pub Made : Bool → LogModel → Vec ℕ Global → Result (Kept Pages) (Vec ℕ Global) → Type 0
Made t m memory (Ok l) = (t ≡ true) × (packed_model l ≡ m)
Made t m memory (Err back) = back ≡ memory
