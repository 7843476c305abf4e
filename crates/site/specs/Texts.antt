-- What modes and steps are called.
use Rattle.std.specs.Prelude.{ℕ, List, codes}
use Rattle.site.specs.declared.modes.Mode.{Mode}
use Rattle.site.specs.declared.modes.Mode.TheVariants.{Whole, Partial, Down}
use Rattle.site.specs.declared.site.changes.Stepped.{Stepped}
use Rattle.site.specs.declared.site.changes.Stepped.TheVariants.{Opened, Staged, Sealed, Idle}

abbrev pub mode_text : Mode → List ℕ
mode_text Whole = codes "whole"
mode_text Partial = codes "partial"
mode_text Down = codes "down"

abbrev pub step_text : Stepped → List ℕ
step_text Opened = codes "opened"
step_text Staged = codes "staged"
step_text Sealed = codes "sealed"
step_text Idle = codes "idle"
