use Rattle.std.proofs.Common.{arith, rules, get_or}
use Rattle.std.proofs.Common.{◌&&◌}
use Rattle.model.specs.Checks.{nodes_check}
use Rattle.model.specs.Refusal.{is_between_of, first_bad}
use Rattle.validate.proofs.network.check_ends.Goals as goal

pub returns : goal.returns
unfolding nodes_check first_bad
returns c =
    let net = c.args.network in
    c.first_bad.ensures (λ k. is_between_of 1 net.nodes (get_or net.firsts.now k 0) && is_between_of 1 net.nodes (get_or net.seconds.now k 0)) _ (omega arith) (λ k r from to says. search rules)
