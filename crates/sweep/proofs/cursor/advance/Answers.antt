-- Down if it is falling, else up.
use native.Mathlib.Omega.{arith}
use Rattle.sweep.proofs.Laws.Moving.{falls-on, rises-on}
use Rattle.sweep.proofs.cursor.advance.Goals as goal

pub fall-requires : goal.fall-requires
fall-requires c = omega arith

pub returns-then-ys-position : goal.returns-then-ys-position
returns-then-ys-position c = falls-on c.args.cursor c.args.long c.args.ys.now c.args.x c.args.position c.if-cursor.true c.reach-metres.ensures (omega (arith, c.if-ys-position.true)) c.fall.ensures

pub fall-requires-then-cursor : goal.fall-requires-then-cursor
fall-requires-then-cursor c = omega arith

pub returns-then-cursor : goal.returns-then-cursor
returns-then-cursor c = falls-on c.args.cursor c.args.long c.args.ys.now c.args.x c.args.position c.if-cursor.true c.reach-metres.ensures (omega (arith, c.if-ys-position.false)) c.fall-then-cursor.ensures

pub returns : goal.returns
returns c = rises-on c.args.cursor c.args.long c.args.ys.now c.args.x c.args.position c.if-cursor.false c.reach-metres.ensures c.rise.ensures
