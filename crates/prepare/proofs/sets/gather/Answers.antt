-- The values gathered, and those still to come, are all of the set's.
use Rattle.std.proofs.Common.{arith}
use Rattle.prepare.proofs.Laws.Kept.{kept-later, kept_set}
use Rattle.prepare.proofs.Laws.Gathering.{room-left, gather-takes, gather-passes, gather-ends}
use Rattle.prepare.proofs.sets.gather.Goals.{then-s-set, else-s-set}
use Rattle.prepare.proofs.sets.gather.Goals as goal

pub bounds-out-n : goal.bounds-out-n
bounds-out-n c = omega (arith, room-left _ _ _ _ _ _ (omega arith) (omega arith) c.loop-k.invariant.0 c.if-s-set.true)

pub loop-k-preserved : goal.loop-k-preserved
loop-k-preserved c =
    elim c.if-s-set.branch [
      | then-s-set w ↦
          let in-room = room-left _ _ _ _ _ _ (omega arith) (omega arith) c.loop-k.invariant.0 w.if-s-set.true in (
            rw (w.out-is, w.n-is) (gather-takes _ _ _ _ _ _ (omega arith) (omega arith) c.loop-k.invariant.0 w.if-s-set.true (omega arith)),
            rw (w.out-is, w.n-is) (kept_set _ _ (omega arith) (kept-later _ (omega arith) c.loop-k.invariant.1)),
          )
      | else-s-set w ↦ (
        rw (w.out-is, w.n-is) (gather-passes _ _ _ _ _ _ (omega arith) (omega arith) c.loop-k.invariant.0 w.if-s-set.false),
        rw (w.out-is, w.n-is) c.loop-k.invariant.1,
      )
    ]

pub returns-clause-gathered : goal.returns-clause-gathered
returns-clause-gathered c = gather-ends _ _ _ _ _ _ (omega arith) c.loop-k.invariant.0
