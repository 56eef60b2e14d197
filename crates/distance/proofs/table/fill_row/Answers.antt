-- `fill_row`: what the search leaves is the row, and it is copied.
use Prim.Native.Nat.{◌+◌, ◌-◌}
use native.Mathlib.Omega.{arith}
use Rattle.model.proofs.Laws.Pieces.{part-long}
use Rattle.distance.proofs.Entries.{searched-row}
use Rattle.distance.proofs.Tables.{row_stays, row_made, row-end}
use Rattle.distance.proofs.table.fill_row.Goals as goal

pub offset_bounds-wanted-k : goal.offset_bounds-wanted-k
offset_bounds-wanted-k c = omega (arith, c.requires.rows_known.0.in_rows, c.requires.ready.few_nodes)

pub bounds-wanted-k : goal.bounds-wanted-k
bounds-wanted-k c = omega (arith, c.requires.rows_known.0.in_rows, c.requires.rows_known.0.fits.wanted_length)

pub returns-then-wanted-k-eq0 : goal.returns-then-wanted-k-eq0
returns-then-wanted-k-eq0 c = row_stays _ _ _ _ _ c.requires.rows_known.1 c.if-wanted-k-eq0.true

pub search_row-worth-requires : goal.search_row-worth-requires
search_row-worth-requires c = record { ready = c.requires.ready; rows_known = c.requires.rows_known.0 }

pub overflow_add-at : goal.overflow_add-at
overflow_add-at c = omega (arith, row-end c.requires.rows_known.0 c.requires.rows_known.1)

pub offset_bounds-rows-at : goal.offset_bounds-rows-at
offset_bounds-rows-at c = omega (arith, row-end c.requires.rows_known.0 c.requires.rows_known.1)

pub slice_bounds-copy_row-end : goal.slice_bounds-copy_row-end
slice_bounds-copy_row-end c = omega (arith, row-end c.requires.rows_known.0 c.requires.rows_known.1)

pub copy_row-requires : goal.copy_row-requires
copy_row-requires c = (omega (arith, c.requires.ready.room, c.search_row-worth.auto), omega (arith, part-long c.args.at _ c.args.rows.now (row-end c.requires.rows_known.0 c.requires.rows_known.1).inside))

pub returns : goal.returns
returns c = row_made _ _ _ _ _ c.args.at {m = c.args.at + c.args.network.nodes - c.args.at} (omega arith) c.if-wanted-k-eq0.false (searched-row c.search_row-worth.ensures (omega (arith, c.requires.ready.room, c.search_row-worth.auto))) (row-end c.requires.rows_known.0 c.requires.rows_known.1).inside c.copy_row.ensures
