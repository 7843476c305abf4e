use Rattle.std.proofs.Common.{sym, ap, ◌∙◌}
use Rattle.std.specs.Option.{unwrap_or}
use Rattle.std.proofs.lemmas.Iterator.{YieldsList-from_slice}
use Rattle.std.proofs.lemmas.Iterator.Adapters.{option_map_id}
use Rattle.std.proofs.lemmas.Iterator.Consumers.{YieldsList-from_copied, min_from_yields_List}
use Rattle.account.proofs.KnownNumbers.{least_is}
use Rattle.account.proofs.accountant.questions.find_least.Goals as goal

pub returns : goal.returns
returns c =
    let chain = YieldsList-from_copied (YieldsList-from_slice c.args.numbers.now cc) in
    let low = sym (option_map_id _) ∙ min_from_yields_List c.copied.result _ c.min.ensures.ran chain in
    c.unwrap_or.ensures ∙ ap (λ o. unwrap_or o 0) low ∙ sym (least_is c.args.numbers.now)
