-- What is added up, and what is left to add by cursors moved on from where they stand, are all.
use Prim.Native.Nat.{◌-◌, ◌*◌, ◌≤◌}
use native.Mathlib.Omega.{arith}
use Rattle.model.specs.Limits.{max_events}
use Rattle.model.proofs.Laws.Equals.{Equals, equals-end}
use Rattle.neighbor_sharing.proofs.Laws.Sharing.{none-shared, equals-few, run-shared, all-shared}
use Rattle.neighbor_sharing.proofs.pairs.count_pairs.Goals.{After-equals_end-next, After-joined_of}
use Rattle.neighbor_sharing.proofs.pairs.count_pairs.Goals as goal

-- the events at one offset
ended : (c : After-equals_end-next) → Equals c.args.xs.now c.loop-i.i c.equals_end-next.result
ended c = equals-end _ _ c.equals_end-next.ensures c.loop-i-test.true

-- they join few enough
few : (c : After-joined_of) → (c.equals_end-next.result - c.loop-i.i) * c.joined_of.result ≤ (c.equals_end-next.result - c.loop-i.i) * max_events
few c = equals-few _ c.requires.1 c.joined_of.ensures.1

pub loop-i-init : goal.loop-i-init
loop-i-init c = none-shared _ _ _ _ c.at_rest-stands.ensures

pub overflow_sub-equals : goal.overflow_sub-equals
overflow_sub-equals c = omega (arith, (ended c).further)

pub overflow_mul-total : goal.overflow_mul-total
overflow_mul-total c = omega (arith, (few c), (ended (goal.at.overflow_mul-total c).After-equals_end-next).within, c.requires.0)

pub overflow_add-total : goal.overflow_add-total
overflow_add-total c = omega (arith, c.loop-i.invariant.total-few, (few c), (ended (goal.at.overflow_add-total c).After-equals_end-next).further, (ended (goal.at.overflow_add-total c).After-equals_end-next).within, c.requires.0)

pub loop-i-smaller : goal.loop-i-smaller
loop-i-smaller c = omega (arith, (ended (goal.at.loop-i-smaller c).After-equals_end-next).further, (ended (goal.at.loop-i-smaller c).After-equals_end-next).within)

pub loop-i-preserved : goal.loop-i-preserved
loop-i-preserved c = run-shared _ _ _ _ c.requires.1 c.loop-i.invariant (ended (goal.at.loop-i-preserved c).After-equals_end-next) c.move_to-stands.ensures c.joined_of.ensures.0 c.joined_of.ensures.1

pub returns : goal.returns
returns c = all-shared _ _ _ _ c.loop-i.invariant c.loop-i-test.false
