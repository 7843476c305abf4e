use Rattle.std.proofs.Common.{rules, ◌∙◌}
use Rattle.std.specs.List.{range_with_len}
use Rattle.std.proofs.lemmas.List.{map-id}
use Rattle.std.proofs.lemmas.List.FromFn.{fill_by_all}
use Rattle.store.proofs.journal.ops.number_slots.Goals as goal

pub returns : goal.returns
returns g c =
    let made = c.from_fn.ensures.items in
    fill_by_all (λ k. k) _ g.row.N 0 made.long (λ k l. search (rules, (made.at k 0 l).2)) ∙ map-id (range_with_len 0 g.row.N)
