use Rattle.std.proofs.Common.{◌≡◌, Err, rules}
use Rattle.model.proofs.Laws.Answer.{answer-refused, answer-accepted}
use Rattle.network_reader.specs.Answers.{network_answer}
use Rattle.network_reader.proofs.WholeNetwork.{edges-answered}
use Rattle.network_reader.proofs.network.answer_edges.Goals as goal

pub returns-in_err-answer_three : goal.returns-in_err-answer_three
unfolding network_answer
returns-in_err-answer_three c =
    let told : c.from_residual.result ≡ Err c.in_err-answer_three.field-0.0 = search rules in
    rw told (edges-answered c.requires c.answer_three.ensures (answer-refused _ c.in_err-answer_three.was))

pub returns : goal.returns
unfolding network_answer
returns c = edges-answered c.requires c.answer_three.ensures (answer-accepted _ c.in_ok-answer_three.was)
