-- The list of wanted nodes has a place for each node.
use mathlib.Core.Path.{sym}
use lib.Seq.{length-take-le}
use Rattle.prepare.proofs.Laws.Ends.{is-network}
use Rattle.prepare.proofs.Laws.Marks.{unmarked}
use Rattle.prepare.proofs.ends.end_table.Goals as goal

pub slice_bounds-wanted-end : goal.slice_bounds-wanted-end
slice_bounds-wanted-end c = (is-network _ _ _ c.requires).nodes_to

pub slice_bounds-fill_rows-end : goal.slice_bounds-fill_rows-end
slice_bounds-fill_rows-end c = sym (length-take-le c.args.network.nodes _ (is-network _ _ _ c.requires).nodes_to)

pub fill_rows-requires : goal.fill_rows-requires
fill_rows-requires c = (c.requires, length-take-le c.args.network.nodes _ (is-network _ _ _ c.requires).nodes_to, unmarked c.args.network.nodes 512 (is-network _ _ _ c.requires).nodes_to)
