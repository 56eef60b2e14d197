-- The numbers of the thresholds passed have been added to their totals, and the last of them to all totals behind.
use lib.ListN.{get_or}
use Rattle.edge_pair.proofs.Laws.Totals.{Running}
use Rattle.neighbor_sharing.specs.Joined.{shared_within}
use Rattle.neighbor_sharing.proofs.pairs.add_pairs.Given as goal

abbrev pub invariant-loop-k : goal.invariant-loop-k
invariant-loop-k l =
    Running l.k l.last (λ j. shared_within (get_or l.thresholds j 0) l.edges l.xs l.ys) l.initial.totals l.totals
