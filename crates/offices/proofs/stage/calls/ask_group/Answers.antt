use Rattle.std.proofs.Common.{◌≡◌, min, length, rules}
use Rattle.offices.proofs.Fronts.{lawful_front}
use Rattle.offices.proofs.stage.calls.ask_group.Goals as goal

pub returns : goal.returns
returns c =
    let n = min c.args.room (length c.args.out.now) in
    let l : length c.call.new.out ≡ n = search rules in
    lawful_front _ _ _ _ _ _ _ n c.call.new.out _ (search rules) l c.call.ensures.lawful
