use Rattle.std.proofs.Common.{length}
use Rattle.perimeter.specs.Counts.{edge_at}
use Rattle.perimeter.proofs.Tally.{Tallied}
use Rattle.perimeter.proofs.counts.count_insides.Given as goal

abbrev pub invariant-loop-j : goal.invariant-loop-j
invariant-loop-j l = Tallied (edge_at l.c l.network.firsts.now l.network.seconds.now l.network.lengths.now l.row1 l.row2) (length l.network.lengths.now) l.j l.count
