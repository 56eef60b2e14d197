use Rattle.network_reader.proofs.ArcLines.{no-form, remark-taken}
use Rattle.network_reader.proofs.arcs.take_form.Goals as goal

pub returns-in-Other : goal.returns-in-Other
returns-in-Other c = no-form _ _ _ c.in-Other.is

pub returns-in-Remark : goal.returns-in-Remark
returns-in-Remark c = remark-taken _ _ _ c.requires.0 c.in-Remark.is

pub returns-in-Problem : goal.returns-in-Problem
returns-in-Problem c = rw c.in-Problem.is (c.take_problem.ensures.over _ _ _)

pub returns-in-Arc : goal.returns-in-Arc
returns-in-Arc c = rw c.in-Arc.is c.take_arc.ensures
