-- `check_table`: without room 2 decides, with room the check of the network.
use mathlib.Core.Path.{◌∙◌}
use native.Mathlib.Omega.{arith}
use Rattle.distance.proofs.Tables.{square-small, wanted-differs, table-short, table-roomy}
use Rattle.distance.proofs.table.check_table.Goals as goal

pub returns-then-wanted-network : goal.returns-then-wanted-network
returns-then-wanted-network c = wanted-differs _ _ _ c.if-wanted-network.true

pub overflow_mul-network : goal.overflow_mul-network
overflow_mul-network c = omega (arith, square-small {n = c.args.network.nodes} (omega arith))

pub returns-then-table-network : goal.returns-then-table-network
returns-then-table-network c = table-short _ _ _ c.if-wanted-network.false (omega arith)

pub returns : goal.returns
returns c = c.check_network.ensures ∙ table-roomy _ _ _ c.if-wanted-network.false (omega arith)
