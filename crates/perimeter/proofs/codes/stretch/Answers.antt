use mathlib.Core.Path.{◌∙◌, ap}
use Prim.Native.Nat.{ℕ, ◌+◌}
use Rattle.model.specs.Distance.{difference}
use Rattle.model.proofs.Laws.Codes.{along-none, along-metres}
use borrow.Author.Rules.{rules}
use Rattle.perimeter.proofs.codes.stretch.Goals as goal

pub returns-then-not-own : goal.returns-then-not-own
returns-then-not-own c = along-none _ _ _ (c.if-not-own.true)

pub overflow_add-result : goal.overflow_add-result
unfolding difference
overflow_add-result c = search rules

pub returns : goal.returns
unfolding difference
returns c = ap (λ (n : ℕ). n + 1) c.abs_diff.ensures ∙ along-metres _ _ _ (c.if-not-own.false)
