use Rattle.std.proofs.Common.{◌≡◌, ◌+◌, true, cond, refl, set, take, sym, ap, ◌∙◌, arith}
use Rattle.std.specs.List.{insert}
use Rattle.std.proofs.lemmas.List.{length-take-le}
use Rattle.std.proofs.lemmas.Bool.{lt-ltb}
use Rattle.few.specs.Lists.{few_items, has_room}
use Rattle.few.proofs.Insertions.{insert_there}
use Rattle.few.proofs.list.Few.insert.Goals as goal

pub returns-clause-after : goal.returns-clause-after
returns-clause-after g c =
    let few = c.args.self.now in
    let old = few_items few in
    let x = c.args.item in
    let at = c.min-at.result in
    let long = length-take-le few.count few.items (omega arith) in
    let room : has_room g.row.N old ≡ true = lt-ltb _ _ (omega arith) in
    ap (λ l. take (few.count + 1) (set l at x)) c.copy_within.ensures.after
    ∙ insert_there few.items c.args.place at few.count _ x c.min-at.ensures (omega arith) refl
    ∙ sym (ap (λ b. cond b (insert old c.args.place x) old) room)
