use Rattle.std.proofs.Common.{◌+◌, ◌^◌, get_or, drop, sym, ◌∙◌, arith}
use Rattle.std.proofs.lemmas.List.{at_drop_more, at_drop_all}
use Rattle.text.proofs.NumberLaws.{reading, reading_more, reading_stop, more_small, below_some}
use Rattle.text.proofs.numbers.number.Goals as goal

pub returns-in_err-number : goal.returns-in_err-number
returns-in_err-number c =
    let ds = c.args.digits.now in
    let i = c.loop-byte.byte-index in
    let base = c.args.base in
    let step = at_drop_more (reading base c.loop-byte.number) ds i 0 (omega arith) in
    let stop = reading_stop base c.loop-byte.number (get_or ds i 0) (drop (i + 1) ds) (omega arith) (sym c.with_digit.ensures ∙ c.in_err-number.was) in
    c.from_residual.ensures ∙ sym stop ∙ sym step ∙ c.loop-byte.invariant.0

pub loop-byte-preserved : goal.loop-byte-preserved
loop-byte-preserved c =
    let ds = c.args.digits.now in
    let i = c.loop-byte.byte-index in
    let base = c.args.base in
    let step = at_drop_more (reading base c.loop-byte.number) ds i 0 (omega arith) in
    let more = reading_more base c.loop-byte.number (get_or ds i 0) c.in_ok-number.number (drop (i + 1) ds) (sym c.with_digit.ensures ∙ c.in_ok-number.was) in
    (sym more ∙ sym step ∙ c.loop-byte.invariant.0, more_small base c.loop-byte.number (get_or ds i 0) c.in_ok-number.number (sym c.with_digit.ensures ∙ c.in_ok-number.was))

pub returns : goal.returns
returns c =
    sym (below_some (2 ^ 32) c.loop-byte.number c.loop-byte.invariant.1)
    ∙ sym (at_drop_all (reading c.args.base c.loop-byte.number) c.args.digits.now c.loop-byte.byte-index (omega arith))
    ∙ c.loop-byte.invariant.0
