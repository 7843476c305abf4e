use Rattle.std.proofs.Common.{◌≡◌, ◌-◌, ◌*◌, ◌/◌, ◌%◌, ◌^◌, arith, rules}
use Rattle.text.specs.Numbers.{digit_value}
use Rattle.text.proofs.NumberLaws.{each_element, hex_reads_at}
use Rattle.text.proofs.numbers.hex_digits.Goals as goal

pub returns : goal.returns
returns c =
    let items = c.from_fn.ensures.items in
    hex_reads_at c.args.word c.from_fn.result (search rules) items.long (λ i h.
    each_element _ _ (λ place digit. digit_value digit ≡ c.args.word / 2 ^ (28 - 4 * place) % 16) (λ place digit q k. search rules) c.from_fn.result 0 8 items.each i i (omega arith) h)
