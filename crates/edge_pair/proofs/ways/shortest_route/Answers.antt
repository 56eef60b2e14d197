-- The least of four, by whether the edges are one.
use Rattle.std.proofs.Common.{refl}
use Rattle.edge_pair.specs.Ways.{shortest_route_of}
use Rattle.edge_pair.proofs.ways.shortest_route.Goals as goal

pub returns-then-edges : goal.returns-then-edges
unfolding shortest_route_of
returns-then-edges c = rw c.if-edges.true refl

pub returns : goal.returns
unfolding shortest_route_of
returns c = rw c.if-edges.false cc
