-- After the two turns the totals are of all pairs, from which the row is written.
use Rattle.std.proofs.Common.{arith}
use Rattle.counting.proofs.Laws.Rows.{no-turn, one-turn, which-turn, row_is}
use Rattle.counting.proofs.Laws.Runs.{few_thresholds}
use Rattle.counting.proofs.rows.set_row.Goals as goal

pub loop-own-init : goal.loop-own-init
loop-own-init c = no-turn

pub loop-own-preserved : goal.loop-own-preserved
loop-own-preserved c = one-turn c.loop-own.invariant (few_thresholds c.args.prepared.ready) c.loop-own-test.true (which-turn _ c.loop-own-test.true) c.double.ensures c.add_each.ensures

pub write_row-requires : goal.write_row-requires
write_row-requires c = omega (arith, few_thresholds c.args.prepared.ready, c.requires.4, c.loop-own.invariant.long)

pub returns : goal.returns
returns c = row_is c.loop-own.invariant c.requires.2 (omega arith) c.requires.3 c.requires.4 c.write_row.ensures
