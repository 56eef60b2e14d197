-- `pair_at`: at each place that was passed one of the two bytes is another one.
use mathlib.Core.Bool.{and-false}
use borrow.Author.Tests.{eq-eqb, ne_eqb}
use native.Mathlib.Omega.{arith}
use lib.ListN.{length-drop}
use Rattle.text.proofs.Laws.Places.{pass-one, place_here, place_end, pair-here, pair-later, pair-none}
use Rattle.text.proofs.search.pair_at.Goals.{else-bytes-i-via-else-bytes-i, else-bytes-i-via-then-bytes-i+else-bytes-i-2}
use Rattle.text.proofs.search.pair_at.Goals as goal

pub returns-then-bytes-i-2 : goal.returns-then-bytes-i-2
returns-then-bytes-i-2 c = place_here _ _ c.loop-i.invariant (pair-here c.args.x c.args.y c.args.bytes.now c.loop-i.i (omega arith) c.if-bytes-i.true (eq-eqb _ _ c.if-bytes-i-2.true))

pub loop-i-preserved : goal.loop-i-preserved
loop-i-preserved c = pass-one _ _ c.loop-i.invariant (omega arith)
    (pair-later c.args.x c.args.y c.args.bytes.now c.loop-i.i (omega arith)
    ((elim c.else-bytes-i.branch [ else-bytes-i-via-else-bytes-i w ↦ simp (ne_eqb _ _ w.if-bytes-i.false) | else-bytes-i-via-then-bytes-i+else-bytes-i-2 w ↦ simp (ne_eqb _ _ w.if-bytes-i-2.false, and-false) ])))

pub returns : goal.returns
returns c = place_end _ _ c.loop-i.invariant (pair-none _ _ _ (simp length-drop (omega arith)))
