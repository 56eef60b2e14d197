-- The verdict is the check's; on acceptance the sweep has written the answers.
use Rattle.std.proofs.Common.{rules, ◌≡◌, ◌∙◌, sym, refl, Err}
use Rattle.sweep.proofs.Laws.Answering.{refused, answered}
use Rattle.sweep.proofs.two_edges.cursors.Goals as goal

pub returns-in_err-check_cursors : goal.returns-in_err-check_cursors
returns-in_err-check_cursors c =
    let told : c.from_residual.result ≡ Err c.in_err-check_cursors.field-0.0 = search rules in
    refused (told ∙ sym c.in_err-check_cursors.was ∙ c.check_cursors.ensures) _ _ told

pub sweep_between-requires : goal.sweep_between-requires
sweep_between-requires c = sym c.check_cursors.ensures ∙ c.in_ok-check_cursors.was

pub returns : goal.returns
returns c = answered (sym c.in_ok-check_cursors.was ∙ c.check_cursors.ensures) _ _ refl c.sweep_between.ensures
