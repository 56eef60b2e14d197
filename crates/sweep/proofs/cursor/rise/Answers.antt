-- One up is the definition's own step.
use mathlib.Core.Path.{◌∙◌, sym}
use lib.ListN.{length}
use Rattle.sweep.proofs.Laws.Moving.{rises-no-more, rises-one, rises-to-all}
use Rattle.sweep.proofs.cursor.rise.Goals as goal

pub loop-k-preserved : goal.loop-k-preserved
loop-k-preserved c = sym (rises-one _ (length c.args.ys.now) c.loop-k.k c.loop-k-test.true (sym c.is_within.ensures ∙ c.if-is_within.true)) ∙ c.loop-k.invariant

pub returns-else-is_within : goal.returns-else-is_within
returns-else-is_within c = sym (rises-no-more _ (length c.args.ys.now) c.loop-k.k (sym c.is_within.ensures ∙ c.if-is_within.false)) ∙ c.loop-k.invariant

pub returns-after-loop-k : goal.returns-after-loop-k
returns-after-loop-k c = sym (rises-to-all _ (length c.args.ys.now) c.loop-k.k c.loop-k-test.false) ∙ c.loop-k.invariant
