-- `least_of_four`: see proofs/Least.
use mathlib.Core.Path.{refl}
use Prim.Native.Nat.{◌+◌}
use native.Mathlib.Omega.{arith}
use Rattle.distance.proofs.Least.{one_key, join}
use Rattle.distance.proofs.keys.least_of_four.Goals as goal

pub returns : goal.returns
returns c = let keys = c.args.keys.now in
    let len = c.args.len in
    let at = c.args.at in
    join
    (join (one_key keys len at (at + 1) (omega arith) refl) (one_key keys len (at + 1) (at + 2) (omega arith) (omega arith)) c.min-one.ensures)
    (join (one_key keys len (at + 2) (at + 3) (omega arith) (omega arith)) (one_key keys len (at + 3) (at + 4) (omega arith) (omega arith)) c.min-other.ensures)
    c.min.ensures
