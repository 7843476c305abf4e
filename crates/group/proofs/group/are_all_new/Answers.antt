use Rattle.std.proofs.Common.{sym, ◌∙◌}
use Rattle.group.proofs.Makings.{each_is}
use Rattle.group.proofs.group.are_all_new.Goals as goal

pub returns-then-is_group : goal.returns-then-is_group
returns-then-is_group g c =
    c.each_new.ensures ∙ each_is g.C.Calls.model c.in-Ok.count c.args.sites.now c.in-Ok.ensures.1 (sym c.if-is_group.ensures)
