use Rattle.std.proofs.Common.{arith}
use Rattle.logs.specs.Rings.{ring_room}
use Rattle.logs.proofs.Laid.{read_inside}
use Rattle.logs.proofs.pages.ops.PagesHolder.entry.Goals as goal

pub at-requires : goal.at-requires
at-requires c = omega (arith, read_inside c.args.self.now c.args.version c.in_ok-page.page c.in_ok-page.ensures)

pub overflow_add-page : goal.overflow_add-page
overflow_add-page c =
    let p = c.args.self.now in
    omega (arith, read_inside p c.args.version c.in_ok-page.page c.in_ok-page.ensures, p.small, ring_room p.words)
