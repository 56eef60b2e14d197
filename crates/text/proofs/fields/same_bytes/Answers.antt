-- `same_bytes` answers what `==` does.
use mathlib.Core.Path.{sym, ◌∙◌}
use Rattle.text.proofs.Laws.Fields.{same-pointwise}
use Rattle.text.proofs.fields.same_bytes.Goals as goal

pub returns : goal.returns
returns c = c.eq.ensures ∙ sym (same-pointwise _ _)
