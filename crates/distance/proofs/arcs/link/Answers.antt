-- `link` makes the chains: after a turns they are those of the arcs below a.
use native.Mathlib.Nat.{le_antisymm}
use native.Mathlib.Omega.{arith}
use lib.ListN.{length}
use Rattle.model.proofs.Laws.Zeros.{cleared}
use Rattle.distance.proofs.Chains.{link-none, link-more}
use Rattle.distance.proofs.arcs.link.Goals as goal

pub loop-a-init : goal.loop-a-init
loop-a-init c = link-none _ _ _ _ _ (omega (arith, c.fill.auto.self, c.requires.nodes_in_bounds.0)) (cleared (length c.args.last.now) (c.fill.ensures.after (λ y e. e)))

pub loop-a-preserved : goal.loop-a-preserved
loop-a-preserved c = let here = c.loop-a in
    rw c.tail_of-v.ensures (link-more _ _ _ _ _ here.a here.invariant (omega arith) (c.requires.by_index here.a (omega arith)))

pub returns : goal.returns
returns c = rw (le_antisymm c.loop-a.auto.a-end c.loop-a-test.false) at c.loop-a.invariant
