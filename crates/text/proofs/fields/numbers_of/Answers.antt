-- `numbers_of`: up to three fields, each of them read as a number.
use mathlib.Core.Path.{refl, ◌∙◌}
use Rattle.std.proofs.lemmas.Option.{MatchOption-at_some, MatchOption-at_none}
use Rattle.text.proofs.Laws.Fields.{numbers-one, numbers-two, numbers-three, numbers-four}
use Rattle.text.proofs.fields.numbers_of.Goals as goal

pub returns-in_default : goal.returns-in_default
returns-in_default c = c.one.ensures ∙ numbers-one _ _ _ c.number_of.ensures _ (MatchOption-at_none _ _ c.in_default.is c.first_field.ensures)

pub returns-in_default-behind_second : goal.returns-in_default-behind_second
returns-in_default-behind_second c = c.two.ensures ∙
    numbers-two _ _ _ c.number_of-in_default-behind_second.ensures _ _ _ c.number_of-in_default-behind_second-2.ensures _
    (MatchOption-at_some _ _ _ c.in-Some.is c.first_field.ensures)
    (MatchOption-at_none _ _ c.in_default-behind_second.is c.first_field-2.ensures)

pub returns-in-Some-behind_third : goal.returns-in-Some-behind_third
returns-in-Some-behind_third c = numbers-four _ _ _ refl _ _ _ refl _
    (MatchOption-at_some _ _ _ c.in-Some.is c.first_field.ensures) _
    (MatchOption-at_some _ _ _ c.in-Some-behind_second.is c.first_field-2.ensures) _ _
    (MatchOption-at_some _ _ _ c.in-Some-behind_third.is c.first_field-3.ensures)

pub returns : goal.returns
returns c = c.three.ensures ∙
    numbers-three _ _ _ c.number_of-2.ensures _ _ _ c.number_of-3.ensures _
    (MatchOption-at_some _ _ _ c.in-Some.is c.first_field.ensures) _
    (MatchOption-at_some _ _ _ c.in-Some-behind_second.is c.first_field-2.ensures) _ _
    c.number_of-4.ensures
    (MatchOption-at_none _ _ c.in_default-behind_third.is c.first_field-3.ensures)
