use Rattle.std.proofs.Common.{arith}
use Rattle.perimeter.proofs.Tally.{tally-begins, tally-goes-on, tally-ends}
use Rattle.perimeter.proofs.counts.count_insides.Goals as goal

pub loop-j-init : goal.loop-j-init
loop-j-init c = tally-begins _ _

pub loop-j-preserved : goal.loop-j-preserved
loop-j-preserved c = tally-goes-on _ _ _ c.loop-j.invariant (omega arith) c.count_edge-count.ensures

pub returns : goal.returns
returns c = tally-ends _ _ c.loop-j.invariant (omega arith)
