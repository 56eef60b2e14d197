-- Two fields, or two commas.
use mathlib.Core.List.{◌∷◌}
use Rattle.text.specs.Digits.{digits}
use Rattle.text.specs.Fields.{comma}
use Rattle.printing.proofs.Laws.Chains.{first_room_of, second_room_of, both-put}
use Rattle.printing.specs.Bytes.{span}
use Rattle.printing.specs.Writing.{envelope_given}
use Rattle.printing.proofs.table.put_span.Goals as goal

pub put_field-behind-requires : goal.put_field-behind-requires
unfolding span envelope_given
put_field-behind-requires c = first_room_of _ _ (comma ∷ digits _) (comma ∷ digits _) (rw c.in-Some.is at c.requires)

pub put_field-requires : goal.put_field-requires
unfolding span envelope_given
put_field-requires c = second_room_of _ _ (comma ∷ digits _) (comma ∷ digits _) (rw c.in-Some.is at c.requires) c.put_field-behind.ensures

pub returns-in-Some : goal.returns-in-Some
unfolding span envelope_given
returns-in-Some c = rw c.in-Some.is (both-put _ _ (comma ∷ digits _) (comma ∷ digits _) (rw c.in-Some.is at c.requires) c.put_field-behind.ensures c.put_field.ensures)

pub put-requires : goal.put-requires
unfolding span envelope_given
put-requires c = rw c.in-None.is at c.requires

pub returns-in-None : goal.returns-in-None
unfolding span envelope_given
returns-in-None c = rw c.in-None.is c.put.ensures
