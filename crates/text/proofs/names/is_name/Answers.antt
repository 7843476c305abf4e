use Rattle.std.proofs.Common.{◌-◌, ◌<◌, ◌&&◌, length, take, drop, sym, ap, ◌∙◌, rules}
use Rattle.std.proofs.lemmas.Iterator.{YieldsList-from_slice}
use Rattle.std.proofs.lemmas.Iterator.Search.{all_from_yields_List}
use Rattle.std.proofs.lemmas.List.{take_rest}
use Rattle.text.specs.Names.{is_letter_or_digit, all_letters_or_digits}
use Rattle.text.proofs.NameLaws.{alphanumeric, name_parts}
use Rattle.text.proofs.names.is_name.Goals as goal

pub returns-then-is_ascii_lowercase : goal.returns-then-is_ascii_lowercase
returns-then-is_ascii_lowercase c =
    let word = c.args.word.now in
    let some : 0 < length word = search rules in
    all_from_yields_List is_letter_or_digit _ _ c.all.result c.all.ensures.ran (YieldsList-from_slice (take (length word - 1) (drop 1 word)) cc) (λ x b q k. search (rules, alphanumeric))
    ∙ ap all_letters_or_digits (take_rest word 1)
    ∙ ap (λ x. x && all_letters_or_digits (drop 1 word)) c.if-is_ascii_lowercase.ensures.value
    ∙ sym (name_parts word some)
