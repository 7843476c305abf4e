use Rattle.std.proofs.Common.{◌≡◌, ℕ, ◌-◌, leb, List, length, drop, Some, Option, sym, ap, ◌∙◌, arith}
use Rattle.words.specs.declared.changes.Write.{Write}
use Rattle.words.specs.Writes.{are_writes}
use Rattle.words.specs.Scans.{write_at}
use Rattle.words.proofs.Counts.{more_at, stop_at, end_at}
use Rattle.words.proofs.scan.holds_writes.Goals as goal

pub loop-init : goal.loop-init
loop-init c =
    let e : c.args.count - 0 ≡ c.args.count = omega arith in (
      ap (λ w. w.now) c.new-reader.ensures.words,
      ap (λ p. are_writes 0 (c.args.count - 0) (drop p c.args.words.now)) c.new-reader.ensures.place
          ∙ ap (λ n. are_writes 0 n c.args.words.now) e,
    )

-- the write read, at the place of the reader
found_at : (ws vs : List ℕ) (p : ℕ) {r : Option Write} {w : Write} → vs ≡ ws → r ≡ write_at vs p → r ≡ Some w → write_at ws p ≡ Some w
found_at ws vs p e f g = ap (λ x. write_at x p) (sym e) ∙ sym f ∙ g

pub returns-then-write-low : goal.returns-then-write-low
returns-then-write-low c =
    stop_at c.args.words.now c.loop.low (c.args.count - c.loop.counter) c.loop.reader.place c.in-Some.write
    (omega arith) (found_at c.args.words.now c.loop.reader.words.now c.loop.reader.place c.loop.invariant.0 c.read_write.ensures.write c.in-Some.is) (omega arith)
    ∙ c.loop.invariant.1

pub loop-preserved : goal.loop-preserved
loop-preserved c = (
  ap (λ w. w.now) c.read_write.ensures.words ∙ c.loop.invariant.0,
  more_at c.args.words.now c.loop.low (c.args.count - c.loop.counter) c.loop.reader.place _ _ _ c.in-Some.write
      (omega arith) (found_at c.args.words.now c.loop.reader.words.now c.loop.reader.place c.loop.invariant.0 c.read_write.ensures.write c.in-Some.is) c.if-write-low.false (omega arith) (omega arith) c.in-Some.ensures.after
      ∙ c.loop.invariant.1,
)

pub returns : goal.returns
returns c =
    c.is_done.ensures
    ∙ ap (λ ws. leb (length ws) c.loop.reader.place) c.loop.invariant.0
    ∙ sym (end_at c.args.words.now c.loop.low (c.args.count - c.loop.counter) c.loop.reader.place (omega arith))
    ∙ c.loop.invariant.1
