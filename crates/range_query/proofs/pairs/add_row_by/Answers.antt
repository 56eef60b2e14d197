-- The offsets so far are counted, each from its own place on.
use Rattle.std.proofs.Common.{ap, ◌∙◌, arith}
use Rattle.std.proofs.lemmas.List.{take_all}
use Rattle.range_query.proofs.Laws.Pairs.{row-none, row-onward}
use Rattle.range_query.proofs.pairs.add_row_by.Goals as goal

pub loop-y-init : goal.loop-y-init
loop-y-init g c = λ metres found far is. row-none _ _ (λ y. found (metres y)) c.args.ys.now _

pub loop-y-preserved : goal.loop-y-preserved
loop-y-preserved g c = λ metres found far is. row-onward _ _ (λ y. found (metres y)) c.args.ys.now c.loop-y.y-index c.loop-y-test.true (is _ _ c.metres_to.type_inv c.place_of.ensures ∙ ap found (far _ _ (omega (arith, c.type_inv.ys c.loop-y.y-index)) c.metres_to.ensures)) (c.loop-y.invariant metres found far is) c.change_from.ensures

pub returns : goal.returns
returns g c = λ metres found far is. rw (take_all c.loop-y.y-index c.args.ys.now c.loop-y-test.false) at (c.loop-y.invariant metres found far is)
