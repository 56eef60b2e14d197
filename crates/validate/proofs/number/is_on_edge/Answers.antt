use native.Mathlib.Numerals.{sub-one}
use Rattle.validate.proofs.number.is_on_edge.Goals as goal

pub returns : goal.returns
returns c = simp sub-one
