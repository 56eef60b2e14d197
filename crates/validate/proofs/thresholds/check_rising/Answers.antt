use Rattle.std.proofs.Common.{arith, rules, get_or}
use Rattle.std.proofs.Common.{ltb, pred}
use Rattle.model.specs.Checks.{rising_check}
use Rattle.validate.proofs.thresholds.check_rising.Goals as goal

pub returns : goal.returns
unfolding rising_check
returns c =
    let ts = c.args.thresholds.now in
    c.first_bad.ensures (λ k. ltb (get_or ts (pred k) 0) (get_or ts k 0)) _ (omega arith) (λ k r from to says. search rules)
