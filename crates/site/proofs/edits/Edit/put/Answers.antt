use Rattle.std.proofs.Common.{◌≤◌, length, rules, sym, ap, ◌∙◌, arith, length-take}
use Rattle.std.proofs.lemmas.List.Sorted.{answers_always}
use Rattle.words.specs.Writes.{fit_from}
use Rattle.few.specs.Lists.{few_items}
use Rattle.site.proofs.EditWrites.{fit_with, found_at, gap_at, put_taken, fit_inserted, put_inserted}
use Rattle.site.proofs.edits.Edit.put.Goals as goal

pub invariant_of-self : goal.invariant_of-self
invariant_of-self c =
    let a = c.args.self.now in
    let l = few_items a.writes in
    let w = c.args.write in
    let by_key = c.in-Ok.ensures.position (λ held. held.item) (answers_always _ _ _ (λ f a r g called. search rules)) in
    let e = found_at c.writes.result.now l w c.writes.ensures a.orderly c.in-Ok.place c.in-Ok.ensures.bound by_key in
    record {
      ticketed = a.ticketed;
      ticket_fits = a.ticket_fits;
      snapshot_fits = a.snapshot_fits;
      orderly = ap (fit_from 0) (c.replace.ensures.after ∙ sym e) ∙ fit_with 0 l w a.orderly (omega arith) c.requires;
    }

pub returns-in-Ok : goal.returns-in-Ok
returns-in-Ok c =
    let a = c.args.self.now in
    let l = few_items a.writes in
    let w = c.args.write in
    let by_key = c.in-Ok.ensures.position (λ held. held.item) (answers_always _ _ _ (λ f a r g called. search rules)) in
    let e = found_at c.writes.result.now l w c.writes.ensures a.orderly c.in-Ok.place c.in-Ok.ensures.bound by_key in
    let new = c.replace.new.self in
    put_taken a.ticket a.snapshot l (few_items new) w (e ∙ sym c.replace.ensures.after) (omega (arith, length-take new.count new.items, new.few))

pub invariant_of-self-in-Err : goal.invariant_of-self-in-Err
invariant_of-self-in-Err c =
    let a = c.args.self.now in
    let l = few_items a.writes in
    let w = c.args.write in
    let by_key = c.in-Err.ensures.position (λ held. held.item) (answers_always _ _ _ (λ f a r g called. search rules)) in
    let e = gap_at c.writes.result.now l w c.writes.ensures a.orderly c.in-Err.place c.in-Err.ensures.bound by_key in
    let k : c.in-Err.place ≤ length l = omega (arith, c.in-Err.ensures.bound, ap length c.writes.ensures) in
    record {
      ticketed = a.ticketed;
      ticket_fits = a.ticket_fits;
      snapshot_fits = a.snapshot_fits;
      orderly = fit_inserted l (few_items c.insert.new.self) c.in-Err.place w e k c.insert.ensures.after a.orderly c.requires;
    }

pub returns-in-Err : goal.returns-in-Err
returns-in-Err c =
    let a = c.args.self.now in
    let l = few_items a.writes in
    let w = c.args.write in
    let by_key = c.in-Err.ensures.position (λ held. held.item) (answers_always _ _ _ (λ f a r g called. search rules)) in
    let e = gap_at c.writes.result.now l w c.writes.ensures a.orderly c.in-Err.place c.in-Err.ensures.bound by_key in
    let k : c.in-Err.place ≤ length l = omega (arith, c.in-Err.ensures.bound, ap length c.writes.ensures) in
    put_inserted l (few_items c.insert.new.self) c.in-Err.place w e k a.ticket a.snapshot _ c.insert.ensures.answer c.insert.ensures.after
