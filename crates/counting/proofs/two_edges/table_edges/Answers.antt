-- Two rows, each read for both ends of the other edge.
use Rattle.prepare.specs.Prepared.{entry}
use Rattle.counting.proofs.Laws.TwoEdges.{row-entry, rows-read, same-pair}
use Rattle.counting.specs.TwoEdges.{table_edges_of}
use Rattle.counting.proofs.two_edges.table_edges.Goals as goal

pub entry_in-requires : goal.entry_in-requires
entry_in-requires c = row-entry _ c.requires.0 (c.requires.0.ends.first_is _ c.requires.1) (c.requires.0.ends.first_is _ c.requires.2) (rows-read _ _ _ c.requires.3).0

pub entry_in-requires-2 : goal.entry_in-requires-2
entry_in-requires-2 c = row-entry _ c.requires.0 (c.requires.0.ends.first_is _ c.requires.1) (c.requires.0.ends.second_is _ c.requires.2) (rows-read _ _ _ c.requires.3).0

pub entry_in-requires-3 : goal.entry_in-requires-3
entry_in-requires-3 c = row-entry _ c.requires.0 (c.requires.0.ends.second_is _ c.requires.1) (c.requires.0.ends.first_is _ c.requires.2) (rows-read _ _ _ c.requires.3).1

pub entry_in-requires-4 : goal.entry_in-requires-4
entry_in-requires-4 c = row-entry _ c.requires.0 (c.requires.0.ends.second_is _ c.requires.1) (c.requires.0.ends.second_is _ c.requires.2) (rows-read _ _ _ c.requires.3).1

pub returns : goal.returns
unfolding table_edges_of entry
returns c = same-pair _ c.args.table.now _ _ _ c.requires.3 c.entry_in.ensures c.entry_in-2.ensures c.entry_in-3.ensures c.entry_in-4.ensures
