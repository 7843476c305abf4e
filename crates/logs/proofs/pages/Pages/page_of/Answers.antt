use Rattle.std.proofs.Common.{arith}
use Rattle.logs.specs.HolderBounds.{pages_last}
use Rattle.logs.proofs.Laid.{words_before, located}
use Rattle.logs.proofs.pages.Pages.page_of.Goals as goal

pub at-start-requires : goal.at-start-requires
at-start-requires c = omega (arith, pages_last c.args.self.now)

pub overflow_sub-result : goal.overflow_sub-result
overflow_sub-result c =
    let p = c.args.self.now in
    omega (arith, words_before p _ c.at-start.result.now (omega (arith, pages_last p)) c.at-start.ensures)

pub returns : goal.returns
returns c =
    let p = c.args.self.now in
    located p c.args.version _ c.at-start.result.now (omega arith) (omega (arith, pages_last p)) c.at-start.ensures
