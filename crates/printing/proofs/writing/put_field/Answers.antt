-- `put_field` puts the comma and then the number.
use mathlib.Core.List.{◌∷◌, []}
use Rattle.text.specs.Digits.{digits}
use Rattle.text.specs.Fields.{comma}
use Rattle.printing.proofs.Laws.Writing.{begin, step, room_next, last, room-last}
use Rattle.printing.proofs.writing.put_field.Goals as goal

pub put-behind-requires : goal.put-behind-requires
put-behind-requires c = room_next (comma ∷ []) (digits _) (begin c.requires)

pub put_number-requires : goal.put_number-requires
put_number-requires c = room-last (digits _) (step (comma ∷ []) (digits _) (begin c.requires) c.put-behind.ensures)

pub returns : goal.returns
returns c = last (digits _) (step (comma ∷ []) (digits _) (begin c.requires) c.put-behind.ensures) c.put_number.ensures
