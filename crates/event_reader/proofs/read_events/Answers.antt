use Rattle.std.proofs.Common.{◌≡◌, sym, ◌∙◌, Err, rules}
use lib.Seq.{length-take-le}
use Rattle.model.specs.Limits.{max_events}
use Rattle.text.specs.Parallel.{Level}
use Rattle.event_reader.proofs.WholeEvents.{rows_few, text-too-long, network-refused, lines-refused, rows-answered}
use native.Mathlib.Omega.{arith}
use Rattle.event_reader.proofs.read_events.Goals.{In_ok-count}
use Rattle.event_reader.proofs.read_events.Goals as goal

pub returns-in_err-check_length : goal.returns-in_err-check_length
returns-in_err-check_length c =
    let told : c.from_residual.result ≡ Err c.in_err-check_length.field-0.0 = search rules in
    rw told (text-too-long _ _ _ _ _ (sym c.check_length.ensures ∙ c.in_err-check_length.was))

pub returns-in_err-check_network : goal.returns-in_err-check_network
returns-in_err-check_network c =
    let told : c.from_residual-in_err-check_network.result ≡ Err c.in_err-check_network.field-0.0 = search rules in
    rw told (network-refused _ _ _ _ _ (sym c.check_length.ensures ∙ c.in_ok-check_length.was) (sym c.check_network.ensures ∙ c.in_err-check_network.was))

pub returns-in_err-count : goal.returns-in_err-count
returns-in_err-count c =
    let told : c.from_residual-in_err-count.result ≡ Err c.in_err-count.field-0.0 = search rules in
    rw told (lines-refused _ _ _ _ _ (sym c.check_length.ensures ∙ c.in_ok-check_length.was) (sym c.check_network.ensures ∙ c.in_ok-check_network.was) c.take_text.ensures c.in_err-count.was)

-- the lists have room for every text's
level : (c : In_ok-count) → Level max_events c.take_text.new.sets c.take_text.new.edges c.take_text.new.offsets
level c = record { one = c.take_text.auto.sets; two = c.take_text.auto.edges; three = c.take_text.auto.offsets }

pub slice_bounds-xs-end : goal.slice_bounds-xs-end
slice_bounds-xs-end c = omega (arith, rows_few c.take_text.ensures c.in_ok-count.was, (level (goal.at.slice_bounds-xs-end c).In_ok-count).one)

pub slice_bounds-ys-end : goal.slice_bounds-ys-end
slice_bounds-ys-end c = omega (arith, rows_few c.take_text.ensures c.in_ok-count.was, (level (goal.at.slice_bounds-ys-end c).In_ok-count).two)

pub slice_bounds-zs-end : goal.slice_bounds-zs-end
slice_bounds-zs-end c = omega (arith, rows_few c.take_text.ensures c.in_ok-count.was, (level (goal.at.slice_bounds-zs-end c).In_ok-count).three)

pub slice_bounds-answer_rows-end : goal.slice_bounds-answer_rows-end
slice_bounds-answer_rows-end c = sym (length-take-le _ _ (omega (arith, rows_few c.take_text.ensures c.in_ok-count.was, (level (goal.at.slice_bounds-answer_rows-end c).In_ok-count).one)))

pub slice_bounds-answer_rows-end-2 : goal.slice_bounds-answer_rows-end-2
slice_bounds-answer_rows-end-2 c = sym (length-take-le _ _ (omega (arith, rows_few c.take_text.ensures c.in_ok-count.was, (level (goal.at.slice_bounds-answer_rows-end-2 c).In_ok-count).two)))

pub slice_bounds-answer_rows-end-3 : goal.slice_bounds-answer_rows-end-3
slice_bounds-answer_rows-end-3 c = sym (length-take-le _ _ (omega (arith, rows_few c.take_text.ensures c.in_ok-count.was, (level (goal.at.slice_bounds-answer_rows-end-3 c).In_ok-count).three)))

pub returns : goal.returns
returns c = rows-answered _ _ _ _ _ (sym c.check_length.ensures ∙ c.in_ok-check_length.was) (sym c.check_network.ensures ∙ c.in_ok-check_network.was) c.take_text.ensures c.in_ok-count.was
    (level (goal.at.returns c).In_ok-count) c.answer_rows.ensures
