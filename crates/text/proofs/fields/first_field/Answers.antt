-- `first_field` goes by the place of the first separator.
use Rattle.text.proofs.Laws.Fields.{alone_at, first_at_of}
use Rattle.text.proofs.fields.first_field.Goals as goal

pub returns-then-line-end : goal.returns-then-line-end
returns-then-line-end c = alone_at _ _ _ c.first_at-end.ensures c.if-line-end.true

pub returns : goal.returns
returns c = first_at_of _ _ _ c.first_at-end.ensures c.if-line-end.false
