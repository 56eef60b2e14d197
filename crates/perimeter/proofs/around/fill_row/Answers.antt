use Rattle.perimeter.proofs.Verdicts.{row_written}
use Rattle.perimeter.proofs.around.fill_row.Goals as goal

pub returns : goal.returns
returns c = row_written c.distances_from.ensures c.requires.lengths_value c.requires.node c.requires.nodes_in_bounds
