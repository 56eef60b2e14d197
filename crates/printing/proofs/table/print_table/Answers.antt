-- What was checked is printed, or nothing is written.
use Rattle.std.proofs.Common.{◌≡◌, sym, ◌∙◌, Err, rules}
use Rattle.model.proofs.Laws.Answer.{answer-refused, written-refused}
use Rattle.printing.proofs.Laws.Writing.{put_written}
use Rattle.printing.proofs.Laws.Verdict.{bytes-answer, accepted-table}
use Rattle.printing.proofs.table.print_table.Goals as goal

pub returns-in_err-check_table : goal.returns-in_err-check_table
returns-in_err-check_table c =
    let refused = sym c.check_table.ensures ∙ c.in_err-check_table.was in
    let told : c.from_residual.result ≡ Err c.in_err-check_table.field-0.0 = search rules in
    record { answer = told ∙ answer-refused _ refused; after = written-refused _ _ refused }

pub put_table-requires : goal.put_table-requires
put_table-requires c = accepted-table _ _ _ _ _ _ (sym c.check_table.ensures ∙ c.in_ok-check_table.was)

pub returns : goal.returns
returns c = let accepted = sym c.check_table.ensures ∙ c.in_ok-check_table.was in
    record { answer = bytes-answer accepted c.put_table.ensures; after = put_written _ _ _ _ accepted c.put_table.ensures }
