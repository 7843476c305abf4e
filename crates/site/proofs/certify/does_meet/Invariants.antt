use Rattle.std.proofs.Common.{◌≡◌, drop}
use Rattle.account.specs.Account.{meets}
use Rattle.logs.specs.LogModel.{entry_at}
use Rattle.site.specs.Calls.{writes_in}
use Rattle.site.proofs.certify.does_meet.Given as goal

-- What is left of the entry's writes decides as the whole did.
abbrev pub invariant-loop-number : goal.invariant-loop-number
invariant-loop-number g l =
    let ws = writes_in (entry_at (g.L.Log.model l.log) l.version) in
    meets (drop l.number ws) l.writes ≡ meets ws l.writes
