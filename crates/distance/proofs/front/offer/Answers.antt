-- `offer` does what the definition's three cases say.
use mathlib.Core.Path.{refl}
use native.Mathlib.Omega.{arith}
use Rattle.distance.specs.Search.{entered, lowered, passed}
use Rattle.distance.proofs.front.offer.Goals as goal

pub bounds-front-len : goal.bounds-front-len
bounds-front-len c = (c.requires.room c.if-old-eq0.true).0

pub bounds-keys-len : goal.bounds-keys-len
bounds-keys-len c = (c.requires.room c.if-old-eq0.true).1

pub returns-then-old-eq0 : goal.returns-then-old-eq0
returns-then-old-eq0 c = entered c.if-old-eq0.true refl refl (cc c.key_of.ensures) refl refl

pub overflow_cast-place : goal.overflow_cast-place
overflow_cast-place c = omega (arith, c.type_inv.slots c.args.w)

pub key_of-requires-then-entry-old : goal.key_of-requires-then-entry-old
key_of-requires-then-entry-old c = omega (arith, c.type_inv.slots c.args.w)

pub offset_bounds-keys-place : goal.offset_bounds-keys-place
offset_bounds-keys-place c = omega (arith, c.type_inv.slots c.args.w)

pub bounds-keys-place : goal.bounds-keys-place
bounds-keys-place c = c.requires.slot (omega (arith, c.if-old-eq0.false)) c.if-entry-old.true

pub returns-then-entry-old : goal.returns-then-entry-old
returns-then-entry-old c = lowered (omega (arith, c.if-old-eq0.false)) c.if-entry-old.true refl refl (cc c.key_of-then-entry-old.ensures) refl refl

pub returns-else-entry-old : goal.returns-else-entry-old
returns-else-entry-old c = passed (omega arith) c.if-entry-old.false refl refl refl refl refl
