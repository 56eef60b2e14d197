use mathlib.Core.Path.{ap, ◌∙◌}
use Rattle.text.specs.EventText.{take_numbers_of}
use Rattle.event_reader.proofs.events.take_numbers.Goals as goal

pub returns-in-Three : goal.returns-in-Three
unfolding take_numbers_of
returns-in-Three c = ap (take_numbers_of _ _) c.in-Three.is ∙ c.take_row.ensures
