use Rattle.std.proofs.Common.{is_some, refl, rules}
use Rattle.std.proofs.lemmas.Iterator.Consumers.{YieldsList-from_first}
use Rattle.std.proofs.lemmas.Iterator.Search.{all_from_yields_List}
use Rattle.text.specs.Numbers.{hex_word_of}
use Rattle.text.specs.Split.{words}
use Rattle.script.proofs.parts.are_spelt.Goals as goal

pub returns : goal.returns
returns c =
    all_from_yields_List (λ w. is_some (hex_word_of w)) c.all.new.self _ c.all.result c.all.ensures.ran
    (YieldsList-from_first (λ x. x.now) (λ s. words s.0.now) (words c.args.text.now) refl) (λ x b q k. search rules)
