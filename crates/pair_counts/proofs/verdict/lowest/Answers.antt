use Rattle.std.proofs.Common.{arith}
use Rattle.pair_counts.proofs.Laws.Verdict.{lower-number, higher-number, lower-place, higher-place, lowest-next, lowest-alone}
use Rattle.pair_counts.proofs.verdict.lowest.Goals as goal

pub returns-in-Err-Ok : goal.returns-in-Err-Ok
returns-in-Err-Ok c = lowest-alone _ _ c.in-Err-Ok.is-1

pub returns-in-Ok-default : goal.returns-in-Ok-default
returns-in-Ok-default c = lowest-next _ _ c.in-Ok-default.is-0

pub returns-then-n-m : goal.returns-then-n-m
returns-then-n-m c = rw (c.in-Err-Err.is-0, c.in-Err-Err.is-1) (lower-number _ _ (omega (arith, c.number-n.ensures, c.number-m.ensures)))

pub returns-then-m-n : goal.returns-then-m-n
returns-then-m-n c = rw (c.in-Err-Err.is-0, c.in-Err-Err.is-1) (higher-number _ _ (omega (arith, c.number-n.ensures, c.number-m.ensures)))

pub returns-then-r-s : goal.returns-then-r-s
returns-then-r-s c = rw (c.in-Err-Err.is-0, c.in-Err-Err.is-1) (lower-place _ _ (omega (arith, c.number-n.ensures, c.number-m.ensures)) c.if-r-s.true)

pub returns-else-r-s : goal.returns-else-r-s
returns-else-r-s c = rw (c.in-Err-Err.is-0, c.in-Err-Err.is-1) (higher-place _ _ (omega (arith, c.number-n.ensures, c.number-m.ensures)) (omega arith))
