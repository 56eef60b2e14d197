use mathlib.Core.Path.{sym, ◌∙◌}
use Rattle.network_reader.proofs.ArcLines.{problem-misplaced, problem-refused, problem-taken}
use Rattle.network_reader.proofs.arcs.take_problem.Goals as goal

pub returns-in-Some : goal.returns-in-Some
returns-in-Some c = problem-misplaced c.in-Some.is

pub returns-then-not-are_sizes : goal.returns-then-not-are_sizes
returns-then-not-are_sizes c = problem-refused c.in_default.is (sym c.are_sizes.ensures ∙ c.if-not-are_sizes.true)

pub returns : goal.returns
returns c = problem-taken c.in_default.is (sym c.are_sizes.ensures ∙ c.if-not-are_sizes.false)
