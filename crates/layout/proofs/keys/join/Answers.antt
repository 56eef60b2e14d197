-- The keys are those of the events passed; the events left give the rest.
use native.Mathlib.Omega.{arith}
use Rattle.layout.proofs.Laws.Keys.{key-turn, keys_filled}
use Rattle.layout.proofs.keys.join.Goals as goal

pub loop-i-preserved : goal.loop-i-preserved
loop-i-preserved c = key-turn c.args.edges.now c.args.offsets.now c.loop-i.keys c.loop-i.i
    (omega arith)
    (omega arith)
    (omega arith)
    c.loop-i.invariant

pub returns : goal.returns
returns c = keys_filled c.args.edges.now c.args.offsets.now c.loop-i.keys c.loop-i.i
    (omega arith)
    (omega arith)
    c.loop-i.invariant
