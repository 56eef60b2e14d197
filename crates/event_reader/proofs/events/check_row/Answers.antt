use mathlib.Core.Path.{sym, ◌∙◌}
use native.Mathlib.Numerals.{sub-one}
use borrow.Author.Tests.{le-leb, lt-leb}
use Rattle.model.proofs.Laws.Refusal.{between-true}
use Rattle.event_reader.proofs.RowSteps.{set-refused, edge-refused, offset-refused, count-refused, row-accepted}
use native.Mathlib.Omega.{arith}
use Rattle.event_reader.proofs.events.check_row.Goals as goal

pub returns-then-not-is_set : goal.returns-then-not-is_set
returns-then-not-is_set c = set-refused _ _ _ (sym c.is_set.ensures ∙ c.if-not-is_set.true)

pub returns-then-not-is_between : goal.returns-then-not-is_between
returns-then-not-is_between c = edge-refused _ _ _ (sym c.is_set.ensures ∙ c.if-not-is_set.false) (sym c.is_between.ensures ∙ c.if-not-is_between.true)

pub overflow_sub-row : goal.overflow_sub-row
overflow_sub-row c = (between-true _ _ _ (sym c.is_between.ensures ∙ c.if-not-is_between.false)).from

pub bounds-lengths-row : goal.bounds-lengths-row
bounds-lengths-row c = let b = between-true _ _ _ (sym c.is_between.ensures ∙ c.if-not-is_between.false) in
    omega (arith, b.from, b.to)

pub returns-then-lengths-row : goal.returns-then-lengths-row
returns-then-lengths-row c = offset-refused _ _ _ (sym c.is_set.ensures ∙ c.if-not-is_set.false) (sym c.is_between.ensures ∙ c.if-not-is_between.false) (rw (← sub-one) (lt-leb _ _ c.if-lengths-row.true))

pub returns-then-count-ge-MAX_EVENTS : goal.returns-then-count-ge-MAX_EVENTS
returns-then-count-ge-MAX_EVENTS c = count-refused _ _ _ (sym c.is_set.ensures ∙ c.if-not-is_set.false) (sym c.is_between.ensures ∙ c.if-not-is_between.false) (rw (← sub-one) (le-leb _ _ c.if-lengths-row.false)) c.if-count-ge-MAX_EVENTS.true

pub returns : goal.returns
returns c = row-accepted _ _ _ (sym c.is_set.ensures ∙ c.if-not-is_set.false) (sym c.is_between.ensures ∙ c.if-not-is_between.false) (rw (← sub-one) (le-leb _ _ c.if-lengths-row.false)) c.if-count-ge-MAX_EVENTS.false
