-- `check_row`: without room 2 decides, with room the check of the nodes.
use mathlib.Core.Path.{◌∙◌}
use native.Mathlib.Omega.{arith}
use Rattle.distance.proofs.Verdicts.{row-short, row-roomy}
use Rattle.distance.proofs.row.check_row.Goals as goal

pub returns-then-answers-network : goal.returns-then-answers-network
returns-then-answers-network c = row-short _ _ _ (omega arith)

pub returns : goal.returns
returns c = c.check_nodes.ensures ∙ row-roomy _ _ _ (omega arith)
