-- The length code of what is told.
use mathlib.Core.Path.{ap, sym, ◌∙◌}
use Rattle.exports.specs.Told.{metres_code, value_or, length_code}
use native.Mathlib.Numerals.{add-one}
use Rattle.exports.proofs.told.tell_length.Goals as goal

pub returns-in-Some : goal.returns-in-Some
unfolding metres_code length_code value_or
returns-in-Some c = record { result_is = add-one _ ∙ ap metres_code (sym c.in-Some.is ∙ c.tell.ensures.result_is); refusal = c.tell.ensures.refusal }

pub returns-in-None : goal.returns-in-None
unfolding metres_code length_code value_or
returns-in-None c = record { result_is = ap metres_code (sym c.in-None.is ∙ c.tell.ensures.result_is); refusal = c.tell.ensures.refusal }
