use Rattle.std.proofs.Common.{◌+◌, ◌*◌, leb, ap, ◌∙◌}
use Rattle.logs.proofs.Laid.{pages_fits}
use Rattle.logs.proofs.pages.ops.PagesHolder.has_room.Goals as goal

pub returns : goal.returns
returns c =
    let p = c.args.self.now in
    ap (leb (c.len.result + 3 + 2 * c.args.count)) c.size.ensures
    ∙ pages_fits p c.args.count c.len.result c.len.ensures.value
