use Rattle.model.specs.Counting.{one_if}
use Rattle.model.specs.Distance.{exactly}
use Rattle.perimeter.specs.Counts.{reached}
use Rattle.perimeter.proofs.Tally.{Tallied}
use Rattle.perimeter.proofs.counts.count_nodes.Given as goal

abbrev pub invariant-loop-k : goal.invariant-loop-k
invariant-loop-k l = Tallied (λ i. one_if (exactly (reached l.c l.row1 l.row2 i) l.c.radius)) l.nodes l.k l.count
