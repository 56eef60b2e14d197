use Rattle.std.proofs.Common.{arith, sym, ◌∙◌}
use Rattle.model.proofs.Laws.Refusal.{scan_begins, scan-goes-on, scan-stops, scan-ends}
use Rattle.validate.proofs.scan.first_bad.Goals as goal

pub loop-k-init : goal.loop-k-init
loop-k-init g c = λ test n is says. scan_begins _ _ _ _

pub returns-then-not-good : goal.returns-then-not-good
returns-then-not-good g c = λ test n is says. sym (scan-stops _ _ (c.loop-k.invariant test n is says) (omega arith) (sym (says _ _ (omega arith) (omega arith) c.good.ensures) ∙ c.if-not-good.true))

pub loop-k-preserved : goal.loop-k-preserved
loop-k-preserved g c = λ test n is says. scan-goes-on _ _ (c.loop-k.invariant test n is says) (omega arith) (sym (says _ _ (omega arith) (omega arith) c.good.ensures) ∙ c.if-not-good.false)

pub returns : goal.returns
returns g c = λ test n is says. sym (scan-ends _ _ (c.loop-k.invariant test n is says) (omega arith))
