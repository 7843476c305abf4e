use Rattle.std.proofs.Common.{rules, tests, sym, ◌∙◌}
use Rattle.std.proofs.lemmas.Iterator.{YieldsList-from_slice, YieldsList-from_zip}
use Rattle.std.proofs.lemmas.Iterator.Search.{all_from_yields_List}
use Rattle.std.proofs.lemmas.Bool.{lt-leb}
use Rattle.site.proofs.PagesTaken.{pair_covered, covers_pairs, covers_short}
use Rattle.site.proofs.site.pages.is_covered.Goals as goal

pub returns-then-old-new : goal.returns-then-old-new
returns-then-old-new c =
    all_from_yields_List pair_covered c.all.new.self _ c.all.result c.all.ensures.ran (YieldsList-from_zip (YieldsList-from_slice c.args.old.now cc) (YieldsList-from_slice c.args.new.now cc)) (λ x b q k. search (rules, tests))
    ∙ covers_pairs c.args.old.now c.args.new.now c.if-old-new.true

pub returns-else-old-new : goal.returns-else-old-new
returns-else-old-new c = lt-leb _ _ c.if-old-new.false ∙ sym (covers_short c.args.old.now c.args.new.now c.if-old-new.false)
