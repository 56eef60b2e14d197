-- The test held at every place that was passed.
use Rattle.std.proofs.Common.{◌≡◌, ℕ, ◌-◌, ◌≤◌, ◌<◌, Bool}
use Rattle.model.proofs.Laws.Refusal.{Scanned}
use Rattle.validate.proofs.scan.first_bad.Given as goal

abbrev pub invariant-loop-k : goal.invariant-loop-k
invariant-loop-k g l =
    (test : ℕ → Bool) (n : ℕ) → l.end - l.start ≡ n → ((k : ℕ) (r : Bool) → l.start ≤ k → k < l.end → g.F.Fn.post l.good (k, tt) r → r ≡ test k) → Scanned l.fault test l.start n l.k
