-- The keys are those of the events passed; the events left give the rest.
use mathlib.Core.List.{◌++◌, map}
use mathlib.Core.Path.{◌≡◌}
use lib.ListN.{take, drop}
use Rattle.model.specs.Events.{events}
use Rattle.layout.specs.Keys.{key_of}
use Rattle.layout.proofs.keys.join.Given as goal

abbrev pub invariant-loop-i : goal.invariant-loop-i
invariant-loop-i l =
    map key_of (events l.edges l.offsets) ≡ take l.i l.keys ++ map key_of (events (drop l.i l.edges) (drop l.i l.offsets))
