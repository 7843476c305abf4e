use Rattle.std.proofs.Common.{sym, ap, ◌∙◌, arith}
use Rattle.std.proofs.lemmas.Option.{slice_get_past}
use Rattle.logs.specs.LogModel.{write_of}
use Rattle.logs.specs.RingModel.{ring_items}
use Rattle.logs.specs.Rings.{ring_room}
use Rattle.logs.proofs.PageLaws.{write_read}
use Rattle.logs.proofs.Laid.{read_inside, read_count}
use Rattle.logs.proofs.pages.ops.PagesHolder.write.Goals as goal

pub returns-then-number-count : goal.returns-then-number-count
returns-then-number-count c =
    let f = c.in_ok-page.ensures in
    let n = read_count c.args.self.now c.args.version c.in_ok-page.page f c.at.result.now c.at.ensures in
    sym (ap (λ o. write_of o c.args.number) f.1 ∙ slice_get_past f.0.writes c.args.number (omega (arith, n, c.count.ensures)))

pub overflow_add-place : goal.overflow_add-place
overflow_add-place c =
    let p = c.args.self.now in
    omega (arith, read_inside p c.args.version c.in_ok-page.page c.in_ok-page.ensures, p.small, ring_room p.words)

pub overflow_add-place-2 : goal.overflow_add-place-2
overflow_add-place-2 c =
    let p = c.args.self.now in
    let f = c.in_ok-page.ensures in
    let n = read_count p c.args.version c.in_ok-page.page f c.at.result.now c.at.ensures in
    omega (arith, n, c.count.ensures, read_inside p c.args.version c.in_ok-page.page f, p.small, ring_room p.words)

pub overflow_add-place-3 : goal.overflow_add-place-3
overflow_add-place-3 c =
    let p = c.args.self.now in
    let f = c.in_ok-page.ensures in
    let n = read_count p c.args.version c.in_ok-page.page f c.at.result.now c.at.ensures in
    omega (arith, n, c.count.ensures, read_inside p c.args.version c.in_ok-page.page f, p.small, ring_room p.words)

pub at-requires-2 : goal.at-requires-2
at-requires-2 c =
    let p = c.args.self.now in
    let f = c.in_ok-page.ensures in
    let n = read_count p c.args.version c.in_ok-page.page f c.at.result.now c.at.ensures in
    omega (arith, n, c.count.ensures, read_inside p c.args.version c.in_ok-page.page f)

pub at-requires-3 : goal.at-requires-3
at-requires-3 c =
    let p = c.args.self.now in
    let f = c.in_ok-page.ensures in
    let n = read_count p c.args.version c.in_ok-page.page f c.at.result.now c.at.ensures in
    omega (arith, n, c.count.ensures, read_inside p c.args.version c.in_ok-page.page f)

pub returns : goal.returns
returns c =
    let p = c.args.self.now in
    let f = c.in_ok-page.ensures in
    let n = read_count p c.args.version c.in_ok-page.page f c.at.result.now c.at.ensures in
    c.read_write-write.ensures.write
    ∙ write_read (ring_items p.words) c.in_ok-page.page c.args.version f.0 f.2 f.3 c.args.number c.at-2.result.now c.at-3.result.now
    (omega (arith, n, c.count.ensures)) c.at-2.ensures c.at-3.ensures
    ∙ sym (ap (λ o. write_of o c.args.number) f.1)
