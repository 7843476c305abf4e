use Rattle.std.proofs.Common.{sym, ◌∙◌}
use Rattle.store.proofs.LinkedRow.{find_start, find_found, find_next, find_less, find_end}
use Rattle.store.proofs.links.Linked.find_behind.Goals as goal

pub loop-link-init : goal.loop-link-init
loop-link-init c = find_start _ _ _ _ c.requires.within c.requires.chained

pub returns-then-is_match : goal.returns-then-is_match
returns-then-is_match c =
    find_found _ _ _ _ c.requires.within c.requires.chained _ c.loop-link.invariant (λ e. c.loop-link-test.true (e ∙ sym c.link_to-stop.ensures))
    (sym c.is_match.ensures ∙ c.if-is_match.true)

pub loop-link-smaller : goal.loop-link-smaller
loop-link-smaller c =
    find_less _ _ _ _ c.requires.within c.requires.chained _ c.loop-link.invariant (λ e. c.loop-link-test.true (e ∙ sym c.link_to-stop.ensures))

pub loop-link-preserved : goal.loop-link-preserved
loop-link-preserved c =
    find_next _ _ _ _ c.requires.within c.requires.chained _ c.loop-link.invariant (λ e. c.loop-link-test.true (e ∙ sym c.link_to-stop.ensures))
    (sym c.is_match.ensures ∙ c.if-is_match.false)

pub returns : goal.returns
returns c =
    find_end _ _ _ _ c.requires.within c.requires.chained _ c.loop-link.invariant (c.loop-link-test.false ∙ c.link_to-stop.ensures)
