use Rattle.std.proofs.Common.{◌≡◌, ◌≤◌, length}
use Rattle.text.specs.Lines.{lines_left, lines_in_all}
use Rattle.text.proofs.lines.LinesIterator.next.Given as goal

-- The lines that were passed over have no words, and are counted; the text is no longer than it was.
abbrev pub invariant-loop-line : goal.invariant-loop-line
invariant-loop-line l =
    (lines_left l.self ≡ lines_left l.initial.self) × (lines_in_all l.self ≡ lines_in_all l.initial.self)
    × (length l.self.rest.now ≤ length l.initial.self.rest.now)

abbrev pub decreases-loop-line : goal.decreases-loop-line
decreases-loop-line l = length l.self.rest.now
