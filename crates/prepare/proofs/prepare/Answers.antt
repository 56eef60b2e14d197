use Rattle.std.proofs.Common.{◌≡◌, refl, sym, ◌∙◌, Err}
use native.Mathlib.Omega.{arith}
use native.Mathlib.Numerals.{sub-one}
use Rattle.model.specs.Network.{network_of}
use Rattle.model.proofs.Laws.Refusal.{not-accepted}
use Rattle.prepare.specs.Prepared.{greatest}
use Rattle.prepare.proofs.Laws.Verdict.{CountsAccepted, counts-accepted}
use Rattle.prepare.proofs.Laws.Preparing.{layable, endable, prepared}
use borrow.Author.Rules.{rules}
use Rattle.prepare.proofs.prepare.Goals.{In_ok-check_counts}
use Rattle.prepare.proofs.prepare.Goals as goal

-- past the checks everything lent is accepted
passed : (c : In_ok-check_counts) → CountsAccepted (network_of c.args.network) c.args.reports.sets.now c.args.reports.edges.now c.args.reports.offsets.now c.args.thresholds.now c.args.room
passed c = counts-accepted _ _ _ _ _ _ (sym c.check_counts.ensures ∙ c.in_ok-check_counts.was)

pub returns-in_err-check_counts : goal.returns-in_err-check_counts
returns-in_err-check_counts c =
    let refused = sym c.check_counts.ensures ∙ c.in_err-check_counts.was in
    let told : c.from_residual.result ≡ Err c.in_err-check_counts.field-0.0 = search rules in
    record {
      ready = record { verdict = told ∙ sym refused; prepared = λ e. not-accepted (sym refused ∙ e) };
      left_on_refusal = record { left = λ _ _. (refl, refl, refl, refl, refl) };
      surplus_kept = record { laid = λ e. not-accepted (sym told ∙ e); table_kept = λ e. not-accepted (sym told ∙ e) };
    }

pub overflow_sub-bound : goal.overflow_sub-bound
overflow_sub-bound c = (passed c).thresholds-are.some

pub bounds-thresholds-thresholds : goal.bounds-thresholds-thresholds
bounds-thresholds-thresholds c = omega (arith, (passed (goal.at.bounds-thresholds-thresholds c).In_ok-check_counts).thresholds-are.some)

pub lay_runs-requires : goal.lay_runs-requires
lay_runs-requires c = layable _ _ _ _ (passed (goal.at.lay_runs-requires c).In_ok-check_counts).sets-are c.args.working.now.laid_edges c.args.working.now.laid_offsets c.args.working.now.bounds c.args.working.now.set_runs
    (search rules) (search rules) (search rules) (search rules)

pub end_table-requires : goal.end_table-requires
end_table-requires c = endable _ _ _ _ (passed (goal.at.end_table-requires c).In_ok-check_counts).sets-are c.args.working.now.table (search rules)

pub returns : goal.returns
unfolding greatest
returns c = record {
  ready = record {
    verdict = sym (sym c.check_counts.ensures ∙ c.in_ok-check_counts.was);
    prepared = λ _. prepared _ _ _ _ _ _ _ _ _ _ c.lay_runs.ensures.runs_laid (rw sub-one at c.end_table.ensures.ends_filled);
  };
  left_on_refusal = record { left = λ _ e. not-accepted (sym e) };
  surplus_kept = record { laid = λ _. c.lay_runs.ensures.laid_kept; table_kept = λ _. c.end_table.ensures.table_kept };
}
