-- What a function answers, and what an answer list holds when it returns.
use Rattle.std.specs.Prelude.{List, ◌++◌, ℕ, length, drop, Result, Ok, Err}
use Rattle.model.specs.Refusal.{Check}
use Rattle.model.specs.declared.refusal.Refusal.{Refusal}

-- the value where the check accepts, its refusal otherwise
unfoldable pub answer : {Value : Type 0} → Check → Value → Result Value Refusal
answer (Ok done) value = Ok value
answer (Err r) value = Err r

-- unchanged on refusal; otherwise the answers, then what stood behind them before
unfoldable pub written : Check → List ℕ → List ℕ → List ℕ
written (Ok done) answers old = answers ++ drop (length answers) old
written (Err r) answers old = old
