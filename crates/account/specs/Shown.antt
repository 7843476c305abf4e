-- Decisions as they are printed.
use Rattle.std.specs.Prelude.{ℕ, List, ◌++◌, codes, decimal}
use Rattle.account.specs.declared.decisions.Decision.{Decision}
use Rattle.account.specs.declared.decisions.Decision.TheVariants.{Void, Noted, Ahead, TooOld, Conflict, Commit}

abbrev pub decision_text : Decision → List ℕ
decision_text Void = codes "void"
decision_text Noted = codes "noted"
decision_text Ahead = codes "ahead"
decision_text TooOld = codes "too old"
decision_text (Conflict w) = codes "conflict " ++ decimal w
decision_text (Commit v) = codes "commit " ++ decimal v
