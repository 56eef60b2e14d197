-- Each list is what the keys passed say; the keys left say the rest.
use mathlib.Core.List.{◌++◌, map}
use mathlib.Core.Path.{◌≡◌}
use lib.ListN.{take, drop}
use Rattle.layout.specs.Keys.{edge_of, offset_of}
use Rattle.layout.proofs.keys.part.Given as goal

abbrev pub invariant-loop-i : goal.invariant-loop-i
invariant-loop-i l =
    (map edge_of l.keys ≡ take l.i l.edges ++ map edge_of (drop l.i l.keys))
    × (map offset_of l.keys ≡ take l.i l.offsets ++ map offset_of (drop l.i l.keys))
