use Rattle.std.proofs.Common.{◌≡◌, sym, ◌∙◌, Err, rules}
use lib.Seq.{length-take-le}
use Rattle.threshold_reader.proofs.WholeThresholds.{thresholds-too-long, thresholds-bad, thresholds-answered, thresholds-few}
use native.Mathlib.Omega.{arith}
use Rattle.threshold_reader.proofs.read_thresholds.Goals as goal

pub returns-in_err-check_length : goal.returns-in_err-check_length
returns-in_err-check_length c =
    let told : c.from_residual.result ≡ Err c.in_err-check_length.field-0.0 = search rules in
    rw told (thresholds-too-long _ _ (sym c.check_length.ensures ∙ c.in_err-check_length.was))

pub returns-in_err-count : goal.returns-in_err-count
returns-in_err-count c =
    let told : c.from_residual-in_err-count.result ≡ Err c.in_err-count.field-0.0 = search rules in
    rw told (thresholds-bad _ _ (sym c.check_length.ensures ∙ c.in_ok-check_length.was) c.take_text.ensures c.in_err-count.was)

pub slice_bounds-list-end : goal.slice_bounds-list-end
slice_bounds-list-end c = omega (arith, thresholds-few c.take_text.ensures c.in_ok-count.was, c.take_text.auto.list)

pub slice_bounds-answer-end : goal.slice_bounds-answer-end
slice_bounds-answer-end c = sym (length-take-le _ _ (omega (arith, thresholds-few c.take_text.ensures c.in_ok-count.was, c.take_text.auto.list)))

pub returns : goal.returns
returns c = thresholds-answered _ _ (sym c.check_length.ensures ∙ c.in_ok-check_length.was) c.take_text.ensures c.in_ok-count.was c.answer.ensures
