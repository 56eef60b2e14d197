-- The invariant is that of the turns so far; each turn is one step of it.
use Prim.Native.Nat.{◌+◌, ◌≤◌}
use lib.ListN.{length, get_or}
use mathlib.Core.Path.{◌≡◌, ◌∙◌, sym}
use Rattle.sweep.specs.Sweeping.{standing, Movable}
use Rattle.model.specs.Distance.{difference}
use Rattle.sweep.proofs.Laws.Moving.{moved-on-stands}
use Rattle.sweep.proofs.Laws.Step.{begin, can-move, turn, moved-few, swept-few, swept}
use native.Mathlib.Omega.{arith}
use Rattle.sweep.proofs.sweeping.sweep.Goals.{After-abs_diff-moves, In-loop-i}
use Rattle.sweep.proofs.sweeping.sweep.Goals as goal

can : (c : In-loop-i) → Movable c.args.cursor c.args.long c.args.ys.now (get_or c.args.xs.now c.loop-i.i 0) c.loop-i.position
can c = can-move _ _ _ _ _ _ _ _ _ c.requires c.loop-i.invariant c.loop-i-test.true

stands : (c : After-abs_diff-moves) → c.advance-next.result ≡ standing c.args.cursor c.args.long c.args.ys.now (get_or c.args.xs.now c.loop-i.i 0)
stands c =
    let can : Movable c.args.cursor c.args.long c.args.ys.now (get_or c.args.xs.now c.loop-i.i 0) c.loop-i.position = can-move _ _ _ _ _ _ _ _ _ c.requires c.loop-i.invariant c.loop-i-test.true in
    c.advance-next.ensures ∙ moved-on-stands _ _ _ _ can

moved : (c : After-abs_diff-moves) → (c.loop-i.moves + c.abs_diff-moves.result ≤ length c.args.ys.now) × (c.advance-next.result ≤ length c.args.ys.now)
unfolding difference
moved c =
    let can : Movable c.args.cursor c.args.long c.args.ys.now (get_or c.args.xs.now c.loop-i.i 0) c.loop-i.position = can-move _ _ _ _ _ _ _ _ _ c.requires c.loop-i.invariant c.loop-i-test.true in
    moved-few _ _ _ _ _ _ _ _ _ _ c.loop-i.invariant can (stands c) c.abs_diff-moves.ensures

pub loop-i-init : goal.loop-i-init
loop-i-init c = rw c.rest-position.ensures (begin _ _ _ _ _ c.requires)

pub overflow_add-moves : goal.overflow_add-moves
overflow_add-moves c = omega (arith, (moved c), c.requires.few)

pub overflow_cast-positions : goal.overflow_cast-positions
overflow_cast-positions c = omega (arith, (moved c), c.requires.few)

pub overflow_add-positions : goal.overflow_add-positions
overflow_add-positions c = omega (arith, (moved c), c.requires.few)

pub bounds-positions-i : goal.bounds-positions-i
bounds-positions-i c = omega (arith, c.loop-i.invariant.room)

pub loop-i-preserved : goal.loop-i-preserved
unfolding difference
loop-i-preserved c = turn _ _ _ _ _ _ _ _ _ _ c.loop-i.invariant (can (goal.at.loop-i-preserved c).In-loop-i) c.loop-i-test.true (stands c) c.abs_diff-moves.ensures

pub overflow_cast-result : goal.overflow_cast-result
overflow_cast-result c = omega (arith, swept-few _ _ _ _ _ _ _ _ c.loop-i.invariant, c.requires.few)

pub overflow_add-result : goal.overflow_add-result
overflow_add-result c = omega (arith, swept-few _ _ _ _ _ _ _ _ c.loop-i.invariant, c.requires.few)

pub shape_of-positions : goal.shape_of-positions
shape_of-positions c = c.loop-i.invariant.room ∙ sym c.requires.room

pub returns : goal.returns
returns c = swept _ _ _ _ _ _ _ _ c.loop-i.invariant c.loop-i-test.false
