-- The runs passed lie apart.
use Rattle.std.proofs.Common.{arith}
use Rattle.counting.proofs.Laws.Runs.{read, edge_in, table_held}
use Rattle.counting.proofs.runs.next_near.Goals as goal

pub edge_at-edge-requires : goal.edge_at-edge-requires
edge_at-edge-requires c = read c.args.prepared.ready _ (omega arith)

pub table_edges-pair-requires : goal.table_edges-pair-requires
table_edges-pair-requires c = (table_held c.args.prepared.ready, c.requires.0, edge_in c.args.prepared.ready _ _ (omega arith) c.edge_at-edge.ensures, c.requires.1)
