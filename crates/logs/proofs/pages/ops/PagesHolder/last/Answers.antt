use Rattle.std.proofs.Common.{◌+◌, sym, ap, ◌∙◌}
use Rattle.logs.specs.HolderBounds.{pages_last}
use Rattle.logs.proofs.pages.ops.PagesHolder.last.Goals as goal

pub returns : goal.returns
returns c =
    let p = c.args.self.now in ap (λ n. p.floor + n) c.len.ensures.value ∙ sym (pages_last p)
