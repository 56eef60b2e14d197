use Rattle.std.proofs.Common.{arith, ◌∙◌}
use Rattle.model.specs.Counting.{count_below_of}
use Rattle.perimeter.specs.Counts.{nodes_at}
use Rattle.perimeter.proofs.Tally.{tally-begins, tally-goes-on, tally-ends, node-counted, as-number}
use Rattle.perimeter.proofs.counts.count_nodes.Goals as goal

pub loop-k-init : goal.loop-k-init
loop-k-init c = tally-begins _ _

pub loop-k-preserved : goal.loop-k-preserved
loop-k-preserved c = tally-goes-on _ _ _ c.loop-k.invariant (omega arith) (node-counted _ c.reach.ensures c.is_at.ensures (c.from-count.ensures ∙ as-number _))

pub returns : goal.returns
unfolding nodes_at count_below_of
returns c = tally-ends _ _ c.loop-k.invariant (omega arith)
