-- The parts of a row, and its line end.
use Rattle.printing.proofs.Laws.Sizes.{row-length}
use Rattle.printing.proofs.table.row_size.Goals as goal

pub returns : goal.returns
returns c = rw (row-length, ← c.digit_count.ensures.count, ← c.field_size.ensures.size, ← c.span_size.ensures.size)
