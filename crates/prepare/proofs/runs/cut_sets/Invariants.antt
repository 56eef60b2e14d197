use mathlib.Core.Path.{◌≡◌}
use Prim.Native.Nat.{suc}
use lib.ListN.{get_or}
use Rattle.prepare.specs.Cutting.{SetsCut}
use Rattle.prepare.specs.Prepared.{KeptFrom}
use Rattle.prepare.proofs.runs.cut_sets.Given as goal

abbrev pub invariant-loop-s : goal.invariant-loop-s
invariant-loop-s l =
    (get_or l.set_runs l.s 0 ≡ l.runs)
    × SetsCut l.starts l.edges l.bounds l.set_runs l.s
    × KeptFrom (suc l.runs) l.initial.bounds l.bounds
    × KeptFrom (suc l.s) l.initial.set_runs l.set_runs
