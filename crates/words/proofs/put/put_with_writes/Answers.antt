use Rattle.std.proofs.Common.{◌≡◌, true, ◌++◌, length, ap, ◌∙◌, arith, rules, length-append}
use Rattle.words.specs.Writes.{writes_words}
use Rattle.words.specs.Encoded.{put_after}
use Rattle.words.proofs.Puts.{length_writes, put_front, no_room, room}
use Rattle.words.proofs.put.put_with_writes.Goals as goal

pub returns-then-out-count : goal.returns-then-out-count
returns-then-out-count c =
    let f : length c.args.front ≡ 3 = search rules in
    let n = length_writes c.args.writes.now in
    let m = length-append c.args.front (writes_words c.args.writes.now) in
    let q = no_room (c.args.front ++ writes_words c.args.writes.now) c.args.out.now (omega arith) in
    record { answer = q.0; after = q.1 }

pub returns-clause-after : goal.returns-clause-after
returns-clause-after c =
    let copied = c.copy_from_slice.new.self in
    let e : copied ≡ c.args.front = c.copy_from_slice.ensures.after in
    let f : length c.args.front ≡ 3 = search rules in
    let l : length copied ≡ 3 = ap length e ∙ f in
    let ws = writes_words c.args.writes.now in
    let n = length_writes c.args.writes.now in
    let m = length-append copied ws in
    put_front copied c.args.out.now ws _ _ l (omega arith) n c.put_writes.ensures
    ∙ (room (copied ++ ws) c.args.out.now (omega arith)).1
    ∙ ap (λ g. put_after true (g ++ ws) c.args.out.now) e
