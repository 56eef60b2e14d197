use Rattle.std.proofs.Common.{arith, rules, get_or}
use Rattle.std.proofs.Common.{leb}
use Rattle.model.specs.Checks.{set_numbers_check}
use Rattle.model.specs.Limits.{max_set}
use Rattle.model.specs.Refusal.{first_bad}
use Rattle.validate.proofs.sets.check_set_numbers.Goals as goal

pub returns : goal.returns
unfolding set_numbers_check first_bad
returns c =
    c.first_bad.ensures (λ k. leb (get_or c.args.sets.now k 0) max_set) _ (omega arith) (λ k r from to says. search rules)
