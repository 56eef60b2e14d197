-- `fill_rows`: proofs/Tables has the rows while they are filled.
use native.Mathlib.Nat.{le_antisymm}
use native.Mathlib.Omega.{arith}
use Rattle.model.proofs.Laws.Checks.{network-accepted}
use Rattle.distance.proofs.Rooms.{ready}
use Rattle.distance.proofs.Tables.{fill_none, fill_known, fill-next, fill-all, row-end, hold-next}
use Rattle.distance.proofs.table.fill_rows.Goals as goal

pub loop-k-init : goal.loop-k-init
loop-k-init c = (fill_none _ _ _ _, λ y v h. absurd (omega arith))

pub fill_row-most-requires : goal.fill_row-most-requires
fill_row-most-requires c = let here = c.loop-k in record { ready = ready (network-accepted _ c.requires.fillable.accepted) (record { from_one = omega arith; to_nodes = c.loop-k-test.true }) (omega (arith, c.requires.any_source.dist_room)) (omega (arith, c.requires.any_source.front_room)) c.requires.any_source.linked; rows_known = (fill_known _ _ _ _ c.requires.fillable here.invariant.0 here.invariant.1 c.loop-k-test.true, here.invariant.0.at-is) }

pub overflow_add-at : goal.overflow_add-at
overflow_add-at c = omega (arith, row-end (fill_known _ _ _ _ c.requires.fillable c.loop-k.invariant.0 c.loop-k.invariant.1 c.loop-k-test.true) c.loop-k.invariant.0.at-is)

pub loop-k-preserved : goal.loop-k-preserved
loop-k-preserved c = let here = c.loop-k in
    let test = c.loop-k-test.true in
    let filled = c.fill_row-most in
    let inside = (row-end (fill_known _ _ _ _ c.requires.fillable here.invariant.0 here.invariant.1 test) here.invariant.0.at-is).inside in (
      rw filled.ensures (fill-next _ _ _ _ here.invariant.0 test inside),
      rw filled.ensures (hold-next _ _ _ _ _ here.invariant.1 here.invariant.0.at-is inside),
    )

pub returns : goal.returns
returns c = fill-all _ _ _ _ c.loop-k.invariant.0 (le_antisymm c.loop-k.auto.k-end c.loop-k-test.false)
