use mathlib.Core.Path.{sym, ◌∙◌}
use Rattle.network_reader.proofs.ArcSteps.{nodes-refused, length-refused, arc-accepted}
use Rattle.network_reader.proofs.arcs.check_arc.Goals as goal

pub returns-then-not-are_nodes : goal.returns-then-not-are_nodes
returns-then-not-are_nodes c = nodes-refused _ _ (sym c.are_nodes.ensures ∙ c.if-not-are_nodes.true)

pub returns-then-not-is_length : goal.returns-then-not-is_length
returns-then-not-is_length c = length-refused _ _ (sym c.are_nodes.ensures ∙ c.if-not-are_nodes.false) (sym c.is_length.ensures ∙ c.if-not-is_length.true)

pub returns : goal.returns
returns c = arc-accepted _ _ (sym c.are_nodes.ensures ∙ c.if-not-are_nodes.false) (sym c.is_length.ensures ∙ c.if-not-is_length.false)
