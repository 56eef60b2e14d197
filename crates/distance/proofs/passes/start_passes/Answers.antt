-- `start_passes`: the entries of the nodes of earlier rows are lowered one after the other.
use native.Mathlib.Numerals.{add-one}
use native.Mathlib.Omega.{arith}
use Rattle.distance.proofs.Relaxing.{relaxable-start}
use Rattle.distance.proofs.passes.start_passes.Goals as goal

pub loop-y-init : goal.loop-y-init
loop-y-init c = let fill = c.fill.ensures in
    let r = c.requires in
    rw add-one (relaxable-start c.fill.new.self fill.len r.0.fits.accepted (record { from_one = omega arith; to_nodes = omega (arith, r.0.in_rows) }) r.1 (fill.after (λ y e. e)))
