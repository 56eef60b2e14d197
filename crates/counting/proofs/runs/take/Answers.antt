-- The run is read, and so are the rows of its edge.
use Rattle.std.proofs.Common.{refl}
use Rattle.counting.proofs.Laws.Runs.{read, run-edge-in, table_held}
use Rattle.counting.proofs.Laws.TwoEdges.{held-edge}
use Rattle.counting.specs.Runs.{run_of, taken_of}
use Rattle.counting.proofs.runs.take.Goals as goal

pub run_at-run-requires : goal.run_at-run-requires
run_at-run-requires c = read c.args.prepared.ready _ c.requires

pub rows_of-requires : goal.rows_of-requires
rows_of-requires c = held-edge (table_held c.args.prepared.ready) (run-edge-in c.args.prepared.ready _ c.requires _ c.run_at-run.ensures)

pub returns : goal.returns
unfolding taken_of run_of
returns c = rw (c.rows_of.ensures, c.run_at-run.ensures) refl
