use mathlib.Core.Path.{◌≡◌}
use Prim.Native.Nat.{◌≤◌}
use Rattle.prepare.specs.Laying.{SetsLaid}
use Rattle.prepare.specs.Prepared.{start_of, KeptFrom}
use Rattle.prepare.proofs.sets.lay_sets.Given as goal

abbrev pub invariant-loop-s : goal.invariant-loop-s
invariant-loop-s l =
    (l.start ≡ start_of l.reports.sets.now l.s)
    × (l.start ≤ start_of l.reports.sets.now l.count)
    × SetsLaid l.reports.sets.now l.reports.edges.now l.reports.offsets.now l.s l.laid_edges l.laid_offsets l.starts
    × KeptFrom l.start l.initial.laid_edges l.laid_edges
    × KeptFrom l.start l.initial.laid_offsets l.laid_offsets
