use Rattle.pair_counts.proofs.Laws.Verdict.{lists-differ, few-positions, few_moves, roomy, too_many, not-too-many}
use borrow.Author.Tests.{ne_eqb}
use Rattle.pair_counts.proofs.verdict.check_room.Goals.{then-sets-edges-via-then-sets-edges, then-sets-edges-via-else-sets-edges+then-positions-on_edge, then-sets-edges-via-else-sets-edges+else-positions-on_edge+then-moves-lt6}
use Rattle.pair_counts.proofs.verdict.check_room.Goals as goal

pub returns-then-sets-edges : goal.returns-then-sets-edges
returns-then-sets-edges c = elim c.then-sets-edges.branch [
  | then-sets-edges-via-then-sets-edges w ↦ lists-differ _ _ _ _ _ _ (ne_eqb _ _ w.if-sets-edges.true)
  | then-sets-edges-via-else-sets-edges+then-positions-on_edge w ↦ few-positions _ _ _ _ _ _ w.if-sets-edges.false (too_many _ _ _ w.on_edge.ensures w.if-positions-on_edge.true)
  | then-sets-edges-via-else-sets-edges+else-positions-on_edge+then-moves-lt6 w ↦
      few_moves _ _ _ _ _ _ w.if-sets-edges.false (not-too-many _ _ _ w.on_edge.ensures w.if-positions-on_edge.false) w.if-moves-lt6.true
]

pub returns : goal.returns
returns c = roomy _ _ _ _ _ _ c.if-sets-edges.false (not-too-many _ _ _ c.on_edge.ensures c.if-positions-on_edge.false) c.if-moves-lt6.false
