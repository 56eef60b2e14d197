use Rattle.network_reader.proofs.ArcSteps.{first-stored, second-told}
use Rattle.network_reader.proofs.arcs.store.Goals as goal

pub returns-then-count-eq1 : goal.returns-then-count-eq1
returns-then-count-eq1 c = second-told c.requires.1 _ _ c.if-count-eq1.true c.requires.0 c.requires.2

pub returns : goal.returns
returns c = first-stored c.requires.1 _ _ _ _ c.if-count-eq1.false c.requires.0
