-- The sweep is over what lies on the two edges, and told what lies between them.
use Rattle.sweep.proofs.Laws.AnsweringCheck.{cursors-accepted}
use Rattle.sweep.proofs.Laws.Answering.{part-is, two_edges, sweepable, all-written}
use Rattle.sweep.proofs.two_edges.sweep_between.Goals as goal

pub edges_between-between-requires : goal.edges_between-between-requires
edges_between-between-requires c = two_edges (cursors-accepted _ _ _ _ _ _ _ c.requires)

pub sweep_edges-requires : goal.sweep_edges-requires
sweep_edges-requires c = let ok = cursors-accepted _ _ _ _ _ _ _ c.requires in
    sweepable ok c.edges_between-between.ensures (part-is ok.first_laid c.events_on-xs.ensures) (part-is ok.second_laid c.events_on-ys.ensures)

pub returns : goal.returns
returns c = let ok = cursors-accepted _ _ _ _ _ _ _ c.requires in
    all-written ok c.edges_between-between.ensures (part-is ok.first_laid c.events_on-xs.ensures) (part-is ok.second_laid c.events_on-ys.ensures) c.sweep_edges.ensures
