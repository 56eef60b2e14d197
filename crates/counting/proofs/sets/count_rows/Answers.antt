-- The rows of the sets so far are written, and what stands behind them is as it was.
use Rattle.std.proofs.Common.{ℕ, ◌+◌, ◌-◌, ◌≤◌, length, ◌∙◌, ap₂}
use native.Mathlib.Nat.{add-sub_cancel_left}
use Rattle.model.proofs.Laws.Pieces.{part-long}
use Rattle.counting.proofs.Laws.AllSets.{sets-begin, row_fits, set-written, runs-rise, runs-in, counts-fit}
use Rattle.counting.proofs.sets.count_rows.Goals.{In-loop-s}
use Rattle.counting.proofs.sets.count_rows.Goals as goal

-- the next row fits
next_fits : (c : In-loop-s) → c.loop-s.start + length c.args.prepared.thresholds.now ≤ length c.loop-s.answers
next_fits c = rw c.loop-s.auto.answers (row_fits c.loop-s.invariant c.loop-s-test.true c.requires.1)

pub loop-s-init : goal.loop-s-init
loop-s-init c = sets-begin _

pub slice_bounds-set_row-end : goal.slice_bounds-set_row-end
slice_bounds-set_row-end c = next_fits (goal.at.slice_bounds-set_row-end c).In-loop-s

pub set_row-requires : goal.set_row-requires
set_row-requires c = (
  runs-rise c.requires.0 c.loop-s-test.true c.value_at-r.ensures c.value_at-q.ensures,
  runs-in c.requires.0 c.loop-s-test.true c.value_at-r.ensures c.value_at-q.ensures,
  counts-fit c.requires.0 c.loop-s-test.true c.value_at-r.ensures c.value_at-q.ensures,
  c.saturating_sub-events.ensures ∙ ap₂ (λ (m n : ℕ). m - n) c.value_at.ensures c.value_at-in-loop-s.ensures,
  part-long c.loop-s.start _ c.loop-s.answers (next_fits (goal.at.set_row-requires c).In-loop-s),
)

pub loop-s-preserved : goal.loop-s-preserved
loop-s-preserved c = set-written _ _ _ _ c.loop-s.invariant (add-sub_cancel_left _ _) c.value_at-r.ensures c.value_at-q.ensures c.set_row.ensures
