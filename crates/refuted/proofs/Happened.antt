-- The lawful run happens: its play computes to the answers that are written out.
use Rattle.std.proofs.Common.{map, refl}
use Rattle.site.specs.Calls.{called}
use Rattle.refuted.specs.Lawful.{kits, messages, story, as_move, LawfulRun}
use Rattle.refuted.proofs.Playing.{play_runs}

pub happened : LawfulRun
happened = record { answered = refl; run = play_runs called messages kits (map as_move story) refl refl }
