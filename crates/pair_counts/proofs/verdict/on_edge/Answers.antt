use mathlib.Core.Bool.{Bool, true, false, ◌&&◌}
use mathlib.Core.Path.{◌≡◌, refl, ap, ◌∙◌}
use mir.Val.{bool_byte}
use borrow.Author.Tests.{eq-eqb, ne_eqb}
use lib.Dec.{eqb}
use lib.ListN.{get_or}
use Rattle.model.specs.Counting.{one_if}
use Rattle.pair_counts.proofs.Laws.Tally.{on-edge-more, on-edge-all}
use Rattle.pair_counts.proofs.verdict.on_edge.Goals.{then-sets-k, else-sets-k}
use Rattle.pair_counts.proofs.verdict.on_edge.Goals as goal

as-number : (b : Bool) → bool_byte b ≡ one_if b
unfolding one_if
as-number true = refl
as-number false = refl

pub loop-k-preserved : goal.loop-k-preserved
loop-k-preserved c =
    let both : c.if-sets-k.from ≡ (eqb (get_or c.args.sets.now c.loop-k.k 0) c.args.s && eqb (get_or c.args.edges.now c.loop-k.k 0) c.args.e) =
    elim c.if-sets-k.branch [ then-sets-k w ↦ rw (eq-eqb _ _ w.if-sets-k.true) w.from-is | else-sets-k w ↦ rw (ne_eqb _ _ w.if-sets-k.false) (w.from-is ∙ ne_eqb _ _ w.if-sets-k.false) ]
    in
    on-edge-more _ _ _ _ _ _ _ c.requires c.loop-k.invariant c.loop-k-test.true (c.from.ensures ∙ as-number _ ∙ ap one_if both)

pub returns : goal.returns
returns c = on-edge-all _ _ _ _ _ _ c.requires c.loop-k.invariant c.loop-k-test.false
