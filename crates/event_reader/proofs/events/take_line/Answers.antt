use mathlib.Core.Path.{sym, ap, ◌∙◌}
use Rattle.text.specs.EventText.{event_step, take_numbers_of}
use Rattle.event_reader.proofs.events.take_line.Goals as goal

pub returns : goal.returns
unfolding event_step
returns c = ap (take_numbers_of _ _) (sym c.numbers_of.ensures) ∙ c.take_numbers.ensures
