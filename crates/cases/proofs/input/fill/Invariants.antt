-- Each run fills at least one place more.
use Rattle.std.proofs.Common.{length, ◌-◌, ◌≤◌}
use Rattle.cases.proofs.input.fill.Given as goal

abbrev pub invariant-loop-count : goal.invariant-loop-count
invariant-loop-count g l = l.count ≤ length l.list

abbrev pub decreases-loop-count : goal.decreases-loop-count
decreases-loop-count g l = length l.list - l.count
