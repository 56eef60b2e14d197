use Rattle.std.proofs.Common.{arith, rules, get_or}
use Rattle.model.specs.Checks.{lengths_check}
use Rattle.model.specs.Limits.{max_length}
use Rattle.model.specs.Refusal.{is_between_of, first_bad}
use Rattle.validate.proofs.network.check_lengths.Goals as goal

pub returns : goal.returns
unfolding lengths_check first_bad
returns c =
    c.first_bad.ensures (λ k. is_between_of 1 max_length (get_or c.args.lengths.now k 0)) _ (omega arith) (λ k r from to says. search rules)
