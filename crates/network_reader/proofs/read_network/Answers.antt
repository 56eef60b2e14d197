use native.Mathlib.Omega.{arith}
use lib.Seq.{length-take-le}
use Rattle.std.proofs.Common.{◌≡◌, sym, ◌∙◌, Err, rules}
use Rattle.model.specs.Limits.{max_edges}
use Rattle.text.specs.Parallel.{Level}
use Rattle.text.proofs.Laws.Parallel.{level-parts}
use Rattle.network_reader.proofs.WholeNetwork.{edges_few, network-too-long, network-bad, network-answered}
use Rattle.network_reader.proofs.read_network.Goals.{In_ok-size}
use Rattle.network_reader.proofs.read_network.Goals as goal

pub returns-in_err-check_length : goal.returns-in_err-check_length
returns-in_err-check_length c =
    let told : c.from_residual.result ≡ Err c.in_err-check_length.field-0.0 = search rules in
    rw told (network-too-long _ _ _ _ (sym c.check_length.ensures ∙ c.in_err-check_length.was))

pub returns-in_err-size : goal.returns-in_err-size
returns-in_err-size c =
    let told : c.from_residual-in_err-size.result ≡ Err c.in_err-size.field-0.0 = search rules in
    rw told (network-bad _ _ _ _ (sym c.check_length.ensures ∙ c.in_ok-check_length.was) c.take_text.ensures c.in_err-size.was)

-- the lists have room for every text's
level : (c : In_ok-size) → Level max_edges c.take_text.new.firsts c.take_text.new.seconds c.take_text.new.lengths
level c = record { one = c.take_text.auto.firsts; two = c.take_text.auto.seconds; three = c.take_text.auto.lengths }

pub slice_bounds-xs-end : goal.slice_bounds-xs-end
slice_bounds-xs-end c = omega (arith, edges_few c.take_text.ensures c.in_ok-size.was, (level (goal.at.slice_bounds-xs-end c).In_ok-size).one)

pub slice_bounds-ys-end : goal.slice_bounds-ys-end
slice_bounds-ys-end c = omega (arith, edges_few c.take_text.ensures c.in_ok-size.was, (level (goal.at.slice_bounds-ys-end c).In_ok-size).two)

pub slice_bounds-zs-end : goal.slice_bounds-zs-end
slice_bounds-zs-end c = omega (arith, edges_few c.take_text.ensures c.in_ok-size.was, (level (goal.at.slice_bounds-zs-end c).In_ok-size).three)

pub slice_bounds-read-end : goal.slice_bounds-read-end
slice_bounds-read-end c = sym (length-take-le _ _ (omega (arith, edges_few c.take_text.ensures c.in_ok-size.was, (level (goal.at.slice_bounds-read-end c).In_ok-size).one)))

pub slice_bounds-read-end-2 : goal.slice_bounds-read-end-2
slice_bounds-read-end-2 c = sym (length-take-le _ _ (omega (arith, edges_few c.take_text.ensures c.in_ok-size.was, (level (goal.at.slice_bounds-read-end-2 c).In_ok-size).two)))

pub slice_bounds-read-end-3 : goal.slice_bounds-read-end-3
slice_bounds-read-end-3 c = sym (length-take-le _ _ (omega (arith, edges_few c.take_text.ensures c.in_ok-size.was, (level (goal.at.slice_bounds-read-end-3 c).In_ok-size).three)))

pub answer_edges-requires : goal.answer_edges-requires
answer_edges-requires c = level-parts _ (level (goal.at.answer_edges-requires c).In_ok-size) (edges_few c.take_text.ensures c.in_ok-size.was)

pub returns : goal.returns
returns c = network-answered _ _ _ _ (sym c.check_length.ensures ∙ c.in_ok-check_length.was) c.take_text.ensures c.in_ok-size.was
    (level (goal.at.returns c).In_ok-size) c.answer_edges.ensures
