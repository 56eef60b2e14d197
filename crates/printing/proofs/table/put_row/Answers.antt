-- `put_row` puts the parts of a row.
use Rattle.printing.proofs.Laws.Chains.{threshold-room, observed-room, span-room, row-end-room, row_done}
use Rattle.printing.proofs.table.put_row.Goals as goal

pub put_number-after_threshold-requires : goal.put_number-after_threshold-requires
put_number-after_threshold-requires c = threshold-room _ _ _ _ _ c.requires

pub put_field-after_observed-requires : goal.put_field-after_observed-requires
put_field-after_observed-requires c = observed-room _ _ _ _ _ c.requires c.put_number-after_threshold.ensures

pub put_span-after_span-requires : goal.put_span-after_span-requires
put_span-after_span-requires c = span-room _ _ _ _ _ c.requires c.put_number-after_threshold.ensures c.put_field-after_observed.ensures

pub put-requires : goal.put-requires
put-requires c = row-end-room _ _ _ _ _ c.requires c.put_number-after_threshold.ensures c.put_field-after_observed.ensures c.put_span-after_span.ensures

pub returns : goal.returns
returns c = row_done _ _ _ _ _ c.requires c.put_number-after_threshold.ensures c.put_field-after_observed.ensures c.put_span-after_span.ensures c.put.ensures
