-- The runs passed have been taken, each with its partners.
use Rattle.std.proofs.Common.{arith}
use Rattle.counting.proofs.Laws.Each.{partners-rise, partners-end, none-taken, one-taken}
use Rattle.counting.proofs.runs.add_each.Goals as goal

pub loop-a-init : goal.loop-a-init
loop-a-init c = none-taken _

pub add_with-requires : goal.add_with-requires
add_with-requires c = (
  omega arith,
  omega (arith, partners-rise c.args.own c.args.r c.loop-a.a c.loop-a.invariant.low),
  omega (arith, partners-end c.args.own c.loop-a.a),
)

pub loop-a-preserved : goal.loop-a-preserved
loop-a-preserved c = one-taken _ _ c.partners_of-others.ensures.from c.partners_of-others.ensures.to c.loop-a.invariant c.add_with.ensures
