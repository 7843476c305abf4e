use Rattle.std.proofs.Common.{◌≡◌, ◌<◌, max, length, get_or, vec_items, refl, ap, ◌∙◌, arith}
use Rattle.std.proofs.lemmas.List.{get_or_read}
use Rattle.account.proofs.KnownNumbers.{raise_set}
use Rattle.account.proofs.accountant.ops.lift.Goals as goal

pub returns : goal.returns
returns c =
    let ks = c.args.numbers.now in
    let h : c.args.i < length (vec_items ks) = omega (arith, ks.ok.0) in
    let e : c.max.result ≡ max (get_or (vec_items ks) c.args.i 0) c.args.floor =
    c.max.ensures ∙ ap (λ x. max x c.args.floor) (get_or_read (vec_items ks) c.args.i c.index-old.result.now h c.index-old.ensures 0) in
    record { items = raise_set (vec_items ks) c.args.i c.args.floor _ h e; len = refl }
