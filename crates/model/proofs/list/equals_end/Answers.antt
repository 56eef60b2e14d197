-- The place reached, and the equal entries from there on, are the place behind all of them.
use Rattle.std.proofs.Common.{arith, length, ◌≡◌, ◌∙◌}
use Rattle.model.proofs.Laws.Equals.{end-behind, end-begins, end_later, end-here, end-last}
use Rattle.model.proofs.list.equals_end.Goals as goal

pub returns-then-list-from : goal.returns-then-list-from
returns-then-list-from c = end-behind _ _ c.if-list-from.true

pub loop-k-init : goal.loop-k-init
loop-k-init c = end-begins _ _ (omega arith)

pub returns-then-list-k : goal.returns-then-list-k
returns-then-list-k c = end-here _ _ c.loop-k.invariant c.loop-k-test.true c.if-list-k.true

pub loop-k-preserved : goal.loop-k-preserved
loop-k-preserved c = end_later _ _ c.loop-k.invariant c.loop-k-test.true c.if-list-k.false

pub returns : goal.returns
returns c = let at_end : length c.args.list.now ≡ c.loop-k.k = omega arith in at_end ∙ end-last _ _ c.loop-k.invariant c.loop-k-test.false
