-- The pairs with the runs passed have been added.
use Rattle.std.proofs.Common.{arith}
use Rattle.counting.proofs.Laws.Runs.{edge_in, number-is, taken-itself, edge-taken, rows-taken, with_none, with-more, with-apart}
use Rattle.counting.proofs.runs.add_with.Goals as goal

pub loop-b-init : goal.loop-b-init
loop-b-init c = (c.requires.1, with_none _)

pub add_two-apart-requires : goal.add_two-apart-requires
add_two-apart-requires c =
    (omega (arith, number-is _ _ _ _ c.take-one.ensures), omega arith, taken-itself _ _ _ _ c.take-one.ensures)

pub next_near-b-requires : goal.next_near-b-requires
next_near-b-requires c =
    (edge_in c.args.prepared.ready _ _ c.requires.0 (edge-taken _ _ _ _ c.take-one.ensures), rows-taken _ _ _ _ c.take-one.ensures, omega arith, c.requires.2)

pub loop-b-preserved : goal.loop-b-preserved
loop-b-preserved c =
    (c.next_near-b.ensures.0, with-apart c.args.prepared.ready c.requires.0 c.take-one.ensures (with-more (number-is _ _ _ _ c.take-one.ensures) c.loop-b.invariant.1 c.add_two-apart.ensures) (omega (arith, c.next_near-b.ensures.0)) c.next_near-b.ensures.1)
