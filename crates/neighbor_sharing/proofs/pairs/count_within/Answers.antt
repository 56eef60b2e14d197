-- By whether the threshold is below the shortest route.
use mathlib.Core.Path.{refl}
use borrow.Author.Tests.{lt-ltb, le-ltb}
use Rattle.neighbor_sharing.specs.Joined.{shared_within}
use Rattle.neighbor_sharing.proofs.pairs.count_within.Goals as goal

pub returns-then-threshold-shortest : goal.returns-then-threshold-shortest
unfolding shared_within
returns-then-threshold-shortest c = rw (← c.requires.0, lt-ltb _ _ c.if-threshold-shortest.true) refl

pub count_pairs-requires : goal.count_pairs-requires
count_pairs-requires c = (c.requires.1, c.requires.2)

pub returns : goal.returns
unfolding shared_within
returns c = rw (← c.requires.0, le-ltb _ _ c.if-threshold-shortest.false) c.count_pairs.ensures
