use Rattle.std.proofs.Common.{arith, rules, get_or}
use Rattle.std.proofs.Common.{leb, pred}
use Rattle.model.specs.Checks.{event_offsets_check}
use Rattle.model.specs.Refusal.{first_bad}
use Rattle.validate.proofs.events.check_offsets.Goals as goal

pub returns : goal.returns
unfolding event_offsets_check first_bad
returns c =
    c.first_bad.ensures (λ k. leb (get_or c.args.offsets.now k 0) (get_or c.args.lengths.now (pred (get_or c.args.edges.now k 0)) 0)) _ (omega arith) (λ k r from to says. search rules)
