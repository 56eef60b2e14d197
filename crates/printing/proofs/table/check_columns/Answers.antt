-- The columns are looked at in the definition's order.
use Rattle.std.proofs.Common.{◌≡◌, sym, ◌∙◌, Err, rules}
use Rattle.printing.proofs.Laws.Verdict.{observed-differs}
use Rattle.printing.proofs.table.check_columns.Goals as goal

pub returns-in_err-same_length : goal.returns-in_err-same_length
returns-in_err-same_length c =
    let told : c.from_residual.result ≡ Err c.in_err-same_length.field-0.0 = search rules in
    told ∙ sym (observed-differs _ _ _ _ _ c.same_length.ensures c.in_err-same_length.was)
