-- `number_of`: a field with the shape of a number is worth what its digits say.
use mathlib.Core.Path.{◌∙◌, sym}
use Rattle.text.proofs.Laws.Numbers.{number_of-parts}
use Rattle.text.proofs.number.number_of.Goals as goal

pub returns-then-has_shape : goal.returns-then-has_shape
returns-then-has_shape c = c.value_of.ensures ∙ sym (number_of-parts _ _ c.has_shape.ensures ∙ simp c.if-has_shape.true)

pub returns-else-has_shape : goal.returns-else-has_shape
returns-else-has_shape c = sym (number_of-parts _ _ c.has_shape.ensures ∙ simp c.if-has_shape.false)
