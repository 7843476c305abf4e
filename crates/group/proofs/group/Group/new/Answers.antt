use Rattle.std.proofs.Common.{◌≡◌, true, map, refl}
use Rattle.group.specs.Groups.{are_new}
use Rattle.group.proofs.Makings.{begins}
use Rattle.group.proofs.group.Group.new.Goals as goal

pub returns : goal.returns
returns g c =
    let all : are_new (map g.C.Calls.model c.args.sites.items) ≡ true = cc in
    (refl, all, begins g.C.Calls.model g.met.C.Calls.bounded c.args.sites.items all)
