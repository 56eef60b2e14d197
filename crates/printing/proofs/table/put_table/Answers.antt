-- The line of names, and the rows.
use mathlib.Core.List.{◌++◌}
use Rattle.text.specs.Lines.{line_end_of}
use Rattle.printing.specs.Bytes.{header}
use Rattle.printing.specs.Answers.{rows, table_bytes}
use Rattle.printing.proofs.Laws.Chains.{first_room_of, second_room_of, both-put}
use Rattle.printing.proofs.table.put_table.Goals as goal

pub put-start-requires : goal.put-start-requires
unfolding table_bytes
put-start-requires c = first_room_of _ _ (header ++ line_end_of) (rows _ _ _ _ _ _ _) c.requires

pub put_rows-requires : goal.put_rows-requires
unfolding table_bytes
put_rows-requires c = second_room_of _ _ (header ++ line_end_of) (rows _ _ _ _ _ _ _) c.requires c.put-start.ensures

pub returns : goal.returns
unfolding table_bytes
returns c = both-put _ _ (header ++ line_end_of) (rows _ _ _ _ _ _ _) c.requires c.put-start.ensures c.put_rows.ensures
