-- The ends of the events passed are marked.
use Rattle.prepare.specs.Marking.{Marked}
use Rattle.prepare.proofs.ends.mark.Given as goal

abbrev pub invariant-loop-edge : goal.invariant-loop-edge
invariant-loop-edge l = Marked l.ends l.edges l.edge-index l.initial.wanted l.wanted
