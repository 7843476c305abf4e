use Rattle.std.proofs.Common.{◌≡◌, ltb, length, ◌∙◌}
use Rattle.logs.specs.RingModel.{ring_items, ring_size}
use Rattle.logs.proofs.Tables.{table_fits}
use Rattle.logs.proofs.table.ops.TableHolder.has_room.Goals as goal

pub returns : goal.returns
returns c =
    let t = c.args.self.now in
    let l = c.len.ensures.value in
    let s = c.size.ensures in
    let e : ltb c.len.result c.size.result ≡ ltb (length (ring_items t.rows)) (ring_size t.rows) = cc in
    e ∙ table_fits t _
