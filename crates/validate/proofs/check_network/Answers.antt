use Rattle.model.specs.Checks.{network_check}
use Rattle.model.specs.Refusal.{or_else}
use Rattle.validate.proofs.check_network.Goals as goal

pub returns : goal.returns
unfolding network_check or_else
returns c = c.check_over.ensures
