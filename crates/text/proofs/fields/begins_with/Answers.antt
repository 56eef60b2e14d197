-- `begins_with` answers what `starts_with` does.
use mathlib.Core.Path.{sym, ◌∙◌}
use Rattle.text.proofs.Laws.Fields.{begins-pointwise}
use Rattle.text.proofs.fields.begins_with.Goals as goal

pub returns : goal.returns
returns c = c.starts_with.ensures.value ∙ sym (begins-pointwise _ _)
