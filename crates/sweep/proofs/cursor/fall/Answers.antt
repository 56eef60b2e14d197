-- One down is the definition's own step.
use mathlib.Core.Path.{◌≡◌, ◌∙◌, sym}
use Prim.Native.Nat.{◌+◌, ◌-◌}
use native.Mathlib.Omega.{arith}
use Rattle.sweep.proofs.Laws.Moving.{falls-no-more, falls-one, falls-to-none}
use Rattle.sweep.proofs.cursor.fall.Goals as goal

pub returns-then-is_within : goal.returns-then-is_within
returns-then-is_within c = let here : c.loop-k.k - 1 + 1 ≡ c.loop-k.k = omega arith in
    here ∙ sym (falls-no-more _ c.loop-k.k c.loop-k-test.true (sym c.is_within.ensures ∙ c.if-is_within.true)) ∙ c.loop-k.invariant

pub loop-k-preserved : goal.loop-k-preserved
loop-k-preserved c = sym (falls-one _ c.loop-k.k c.loop-k-test.true (sym c.is_within.ensures ∙ c.if-is_within.false)) ∙ c.loop-k.invariant

pub returns : goal.returns
returns c = sym (falls-to-none _ c.loop-k.k c.loop-k-test.false) ∙ c.loop-k.invariant
