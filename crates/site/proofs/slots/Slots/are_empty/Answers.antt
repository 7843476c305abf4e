use Rattle.std.proofs.Common.{rules, tests, ◌∙◌}
use Rattle.std.proofs.lemmas.Iterator.{YieldsList-from_slice}
use Rattle.std.proofs.lemmas.Iterator.Search.{all_from_yields_List}
use Rattle.site.proofs.SlotLaws.{is_free, all_free}
use Rattle.site.proofs.slots.Slots.are_empty.Goals as goal

pub returns : goal.returns
returns c =
    let table = c.args.self.now.table in
    all_from_yields_List is_free _ _ c.all.result c.all.ensures.ran (YieldsList-from_slice table cc) (λ x b q k. search (rules, tests)) ∙ all_free table
