-- The runs are read, and what is added are their pairs: none where the edges are apart.
use Rattle.counting.proofs.Laws.Runs.{read, table_held, edge_in, run-edge-in, edge-taken, rows-taken, run-taken, offsets-in, first-in, second-in, two-added, apart-added}
use Rattle.counting.proofs.runs.add_two.Goals as goal

pub run_at-other-requires : goal.run_at-other-requires
run_at-other-requires c = read c.args.prepared.ready _ c.requires.1

pub table_edges-pair-requires : goal.table_edges-pair-requires
table_edges-pair-requires c = (
  table_held c.args.prepared.ready,
  edge_in c.args.prepared.ready _ _ c.requires.0 (edge-taken _ _ _ _ c.requires.2),
  run-edge-in c.args.prepared.ready _ c.requires.1 _ c.run_at-other.ensures,
  rows-taken _ _ _ _ c.requires.2,
)

pub returns-then-are_apart : goal.returns-then-are_apart
returns-then-are_apart c = apart-added c.args.prepared.ready c.requires.0 c.requires.1 c.requires.2 c.run_at-other.ensures c.table_edges-pair.ensures _ (c.are_apart.ensures c.if-are_apart.true)

pub part_in-requires : goal.part_in-requires
part_in-requires c = offsets-in c.args.prepared.ready _ c.requires.0 _ (run-taken _ _ _ _ c.requires.2)

pub part_in-requires-2 : goal.part_in-requires-2
part_in-requires-2 c = offsets-in c.args.prepared.ready _ c.requires.1 _ c.run_at-other.ensures

pub part_in-requires-3 : goal.part_in-requires-3
part_in-requires-3 c = first-in c.args.prepared.ready _ c.requires.1 _ c.run_at-other.ensures

pub part_in-requires-4 : goal.part_in-requires-4
part_in-requires-4 c = second-in c.args.prepared.ready _ c.requires.1 _ c.run_at-other.ensures

pub returns : goal.returns
returns c = two-added c.args.prepared.ready c.requires.0 c.requires.1 c.requires.2 c.run_at-other.ensures c.table_edges-pair.ensures c.part_in.ensures c.part_in-2.ensures c.part_in-3.ensures c.part_in-4.ensures c.add_pairs.ensures
