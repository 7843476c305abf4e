use Rattle.std.proofs.Common.{◌∙◌}
use Rattle.text.proofs.NumberLaws.{hex_fits}
use Rattle.text.proofs.numbers.hex_word.Goals as goal

pub returns : goal.returns
returns c = c.number.ensures ∙ hex_fits c.args.word.now c.if-word-ne8.false
