-- `end_distances`: the verdict is the check's; on acceptance the rows stand in front of the table.
use Rattle.std.proofs.Common.{rules, ◌≡◌, ◌∙◌, sym, refl, Err}
use Rattle.distance.proofs.Tables.{table-accepted, table-answered}
use Rattle.model.proofs.Laws.Answer.{written-refused}
use Rattle.distance.proofs.table.end_distances.Goals as goal

pub returns-in_err-check_table : goal.returns-in_err-check_table
returns-in_err-check_table c = let refused = sym c.check_table.ensures ∙ c.in_err-check_table.was in
    let told : c.from_residual.result ≡ Err c.in_err-check_table.field-0.0 = search rules in
    record { verdict = told ∙ sym refused; after = written-refused _ _ refused }

pub fill-requires : goal.fill-requires
fill-requires c = table-accepted _ _ _ (sym c.check_table.ensures ∙ c.in_ok-check_table.was)

pub returns : goal.returns
returns c = table-answered _ _ _ _ (sym (sym c.check_table.ensures ∙ c.in_ok-check_table.was)) refl c.fill.ensures c.fill.auto.rows
