use Rattle.std.proofs.Common.{◌∙◌, arith}
use Rattle.logs.proofs.Laid.{words_before, words_all}
use Rattle.logs.proofs.pages.Pages.words_of.Goals as goal

pub overflow_sub-result : goal.overflow_sub-result
overflow_sub-result c =
    omega (arith, words_before c.args.self.now c.args.count c.at.result.now (omega arith) c.at.ensures)

pub returns-then-count-len : goal.returns-then-count-len
returns-then-count-len c =
    omega (arith, words_before c.args.self.now c.args.count c.at.result.now (omega arith) c.at.ensures)

pub returns-else-count-len : goal.returns-else-count-len
returns-else-count-len c =
    c.len-else-count-len.ensures.value ∙ words_all c.args.self.now c.args.count (omega arith)
