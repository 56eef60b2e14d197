-- The rows from s on are taken in.
use mathlib.Core.Path.{◌≡◌, ap, ◌∙◌}
use Prim.Native.Nat.{suc, ◌-◌}
use native.Mathlib.Omega.{arith}
use Rattle.table.specs.Columns.{column_from}
use Rattle.table.proofs.Laws.Spans.{fewer-rows, column-last, column-more}
use Rattle.table.proofs.spans.span_at.Goals as goal

pub entry-last-requires : goal.entry-last-requires
entry-last-requires c = c.requires

pub loop-s-init : goal.loop-s-init
loop-s-init c = (c.requires.some, omega arith, column-last _ _ _ _ _ _ (omega arith) c.entry-last.ensures)

pub entry-requires : goal.entry-requires
entry-requires c = fewer-rows _ c.requires (omega arith) (omega arith)

pub loop-s-preserved : goal.loop-s-preserved
loop-s-preserved c = (omega arith, omega arith, column-more _ _ _ _ _ _ _ _ _ _ (omega arith) (omega arith) c.entry.ensures c.loop-s.invariant.2 c.widen-span.ensures)

pub returns : goal.returns
returns c = let last : c.loop-s.s ≡ 1 = omega arith in
    c.loop-s.invariant.2 ∙ rw last (ap (column_from c.args.rows.now c.args.width c.args.k 1) {x = suc c.args.greatest - 1} (omega arith))
