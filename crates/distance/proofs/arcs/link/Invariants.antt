-- `link` makes the chains: after a turns they are those of the arcs below a.
use Rattle.distance.specs.Arcs.{Linked}
use Rattle.distance.proofs.arcs.link.Given as goal

abbrev pub invariant-loop-a : goal.invariant-loop-a
invariant-loop-a l = Linked l.firsts l.seconds l.last l.next l.nodes l.a
