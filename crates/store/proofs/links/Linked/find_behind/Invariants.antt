use Rattle.store.specs.Slots.{after}
use Rattle.store.proofs.LinkedRow.{Following}
use Rattle.store.proofs.SlotWalks.{place_of}
use Rattle.store.proofs.links.Linked.find_behind.Given as goal

abbrev pub invariant-loop-link : goal.invariant-loop-link
invariant-loop-link l = Following l.self l.item l.at (after l.fn.place) l.link

abbrev pub decreases-loop-link : goal.decreases-loop-link
decreases-loop-link l = place_of l.self.row.slots.now l.self.count l.link
