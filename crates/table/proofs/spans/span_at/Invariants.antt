-- The rows from s on are taken in.
use mathlib.Core.Path.{◌≡◌}
use Prim.Native.Nat.{suc, ◌-◌, ◌≤◌}
use Rattle.table.specs.Columns.{column_from, envelope_in}
use Rattle.table.proofs.spans.span_at.Given as goal

abbrev pub invariant-loop-s : goal.invariant-loop-s
invariant-loop-s l = (1 ≤ l.s) × (l.s ≤ l.greatest) × (envelope_in l.span ≡ column_from l.rows l.width l.k l.s (suc l.greatest - l.s))

abbrev pub decreases-loop-s : goal.decreases-loop-s
decreases-loop-s l = l.s
