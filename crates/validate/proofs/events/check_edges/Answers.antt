use Rattle.std.proofs.Common.{arith, rules, get_or, length}
use Rattle.model.specs.Checks.{event_edges_check}
use Rattle.model.specs.Refusal.{is_between_of, first_bad}
use Rattle.validate.proofs.events.check_edges.Goals as goal

pub returns : goal.returns
unfolding event_edges_check first_bad
returns c = c.first_bad.ensures (λ k. is_between_of 1 (length c.args.lengths.now) (get_or c.args.edges.now k 0)) _ (omega arith) (λ k r from to says. search rules)
