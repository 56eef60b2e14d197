-- Each list is what the keys passed say; the keys left say the rest.
use native.Mathlib.Omega.{arith}
use Rattle.layout.specs.Keys.{edge_of, offset_of}
use Rattle.layout.proofs.Laws.Filling.{map-turn, map-filled}
use Rattle.layout.proofs.keys.part.Goals as goal

pub loop-i-preserved : goal.loop-i-preserved
loop-i-preserved c = (
  map-turn edge_of c.args.keys.now c.loop-i.edges c.loop-i.i (omega arith) (omega arith) c.loop-i.invariant.0,
  map-turn offset_of c.args.keys.now c.loop-i.offsets c.loop-i.i (omega arith) (omega arith) c.loop-i.invariant.1,
)

pub returns : goal.returns
returns c = (
  map-filled edge_of c.args.keys.now c.loop-i.edges c.loop-i.i (omega arith) (omega arith) c.loop-i.invariant.0,
  map-filled offset_of c.args.keys.now c.loop-i.offsets c.loop-i.i (omega arith) (omega arith) c.loop-i.invariant.1,
)
