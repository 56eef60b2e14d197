-- A refusal leaves the lists as they were; otherwise the columns are taken from the counts.
use Rattle.std.proofs.Common.{rules, ◌≡◌, Err}
use Rattle.table.proofs.Laws.Answered.{table-refused, table-accepted, columns-fit, table-answered}
use Rattle.table.proofs.sets.table_with.Goals as goal

pub returns-in_err-check_table : goal.returns-in_err-check_table
returns-in_err-check_table c =
    let told : c.from_residual.result ≡ Err c.in_err-check_table.field-0.0 = search rules in
    rw told (table-refused c.check_table.ensures c.in_err-check_table.was)

pub fill_columns-requires : goal.fill_columns-requires
fill_columns-requires c = columns-fit
    (table-accepted c.check_table.ensures c.in_ok-check_table.was)
    c.counts.ensures c.counts-arg-1.given.0.1 c.greatest_set-greatest.ensures c.fill_columns-arg-2-1.given

pub returns : goal.returns
returns c = table-answered
    (table-accepted c.check_table.ensures c.in_ok-check_table.was)
    c.counts.ensures c.counts-arg-1.given.0.1 c.greatest_set-greatest.ensures c.fill_columns.ensures
