-- Node v's entry stands at index v - 1.
use native.Mathlib.Numerals.{sub-one}
use Rattle.sweep.proofs.asked.code_of.Goals as goal

pub returns : goal.returns
returns c = rw (← sub-one c.args.v, ← c.saturating_sub.ensures) c.value_at.ensures
