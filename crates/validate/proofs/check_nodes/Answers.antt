use Rattle.model.specs.Checks.{lone_node_check, nodes_over_network_check}
use Rattle.model.specs.Refusal.{or_else}
use Rattle.validate.proofs.check_nodes.Goals as goal

pub returns : goal.returns
unfolding nodes_over_network_check lone_node_check or_else
returns c = cc (c.check_over.ensures, c.check_lone_nodes-lone.ensures)
