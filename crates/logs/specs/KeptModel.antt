-- What a log holds, over any holder of its entries.
use Rattle.logs.specs.declared.kept.Kept.{Kept}
use Rattle.logs.specs.LogModel.{Held, LogModel, a_log}
use Rattle.logs.specs.CountersModel.{counters_marks}

abbrev pub kept_model : {H : Type 0} → (H → Held) → Kept H → LogModel
kept_model held_of l = a_log (held_of l.holder) (counters_marks l.counters)
