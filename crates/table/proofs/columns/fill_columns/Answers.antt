-- The first row is copied; the ends of the other columns are filled in beside it where there are other rows.
use mathlib.Core.Path.{sym, ◌∙◌}
use native.Mathlib.Omega.{arith}
use lib.Seq.{length-take-le}
use Rattle.table.proofs.Laws.Columns.{first-row, second_fits, third-fits, observed-alone, all-columns}
use Rattle.table.proofs.columns.fill_columns.Goals as goal

pub slice_bounds-copy_from_slice-end : goal.slice_bounds-copy_from_slice-end
slice_bounds-copy_from_slice-end c = c.requires.first_room_of

pub slice_bounds-copy_from_slice-end-2 : goal.slice_bounds-copy_from_slice-end-2
slice_bounds-copy_from_slice-end-2 c = sym (length-take-le _ _ c.requires.first_room_of)

pub slice_bounds-copy_from_slice-end-3 : goal.slice_bounds-copy_from_slice-end-3
slice_bounds-copy_from_slice-end-3 c = sym (length-take-le _ _ (first-row c.requires.rows_there))

pub copy_from_slice-requires : goal.copy_from_slice-requires
copy_from_slice-requires c = length-take-le _ _ c.requires.first_room_of ∙ sym (length-take-le _ _ (first-row c.requires.rows_there))

pub returns-then-greatest-eq0 : goal.returns-then-greatest-eq0
returns-then-greatest-eq0 c = observed-alone c.requires _ (omega arith) c.copy_from_slice.ensures.after

pub slice_bounds-fill_spans-end : goal.slice_bounds-fill_spans-end
slice_bounds-fill_spans-end c = second_fits c.requires (omega arith)

pub slice_bounds-fill_spans-end-2 : goal.slice_bounds-fill_spans-end-2
slice_bounds-fill_spans-end-2 c = sym (length-take-le _ _ (second_fits c.requires (omega arith)))

pub slice_bounds-fill_spans-end-3 : goal.slice_bounds-fill_spans-end-3
slice_bounds-fill_spans-end-3 c = third-fits c.requires (omega arith)

pub slice_bounds-fill_spans-end-4 : goal.slice_bounds-fill_spans-end-4
slice_bounds-fill_spans-end-4 c = sym (length-take-le _ _ (third-fits c.requires (omega arith)))

pub fill_spans-requires : goal.fill_spans-requires
fill_spans-requires c = (c.requires.rows_there, omega arith, length-take-le _ _ (second_fits c.requires (omega arith)), length-take-le _ _ (third-fits c.requires (omega arith)))

pub returns : goal.returns
returns c = all-columns c.requires _ _ _ (omega arith) c.copy_from_slice.ensures.after
    c.fill_spans.ensures.0 (c.fill_spans.auto.lower ∙ length-take-le _ _ (second_fits c.requires (omega arith)))
    c.fill_spans.ensures.1 (c.fill_spans.auto.upper ∙ length-take-le _ _ (third-fits c.requires (omega arith)))
