use Rattle.std.proofs.Common.{◌≡◌, ◌+◌, ◌≤◌, ◌++◌, length, take, drop, vec_items, refl, sym, ap, ◌∙◌, arith}
use Rattle.std.proofs.lemmas.List.{with_items_is}
use Rattle.std.proofs.lemmas.List.Edits.{paste_all, length-paste}
use Rattle.logs.specs.Window.{place_after, window}
use Rattle.logs.specs.Rings.{ring_count, ring_within}
use Rattle.logs.proofs.Pasted.{window_pasted}
use Rattle.logs.proofs.ring.Ring.extend.Goals as goal

pub returns-then-items-len-clause-items : goal.returns-then-items-len-clause-items
returns-then-items-len-clause-items g c =
    let r = c.args.self.now in
    let xs = c.args.items.now in
    let m = vec_items r.memory in
    let p = c.place_after-end.result in
    let long = r.memory.ok.0 in
    let e = c.place_after-end.ensures ∙ ap (λ n. place_after n r.start r.count) c.len.ensures in
    let within = ring_within r r.count p e (omega (arith, r.room)) in
    let piece : p + length xs ≤ length m = omega (arith, long, within) in
    let written : c.overwrite.new.memory ≡ take p m ++ (xs ++ drop (p + length xs) m) =
    c.overwrite.ensures ∙ ap (λ l. take p l ++ (xs ++ drop (p + length xs) l)) c.as_mut_slice.ensures.value in
    let same : length c.overwrite.new.memory ≡ r.memory.len =
    ap length (written ∙ sym (paste_all m p xs (length xs) refl)) ∙ length-paste m p xs (length xs) piece (omega arith) ∙ sym long in
    ap (λ l. window l r.start (r.count + length xs)) (with_items_is r.memory c.overwrite.new.memory same ∙ written)
    ∙ window_pasted m r.start r.count p (omega (arith, r.begins, long)) (e ∙ ap (λ n. place_after n r.start r.count) long) xs piece (omega (arith, long, ring_count r))
