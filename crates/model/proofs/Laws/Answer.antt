-- What a function answers, and what an answer list holds after a refusal and after answers that fill it.
use mathlib.Core.List.{List, ◌++◌, append-nil}
use mathlib.Core.Path.{◌≡◌, refl, sym, ap, ◌∙◌}
use Prim.Native.Nat.{ℕ, ◌≤◌}
use native.Mathlib.Omega.{arith}
use lib.ListN.{length, drop, drop_of_length-le}
use Rattle.std.specs.Prelude.{Result, Ok, Err}
use Rattle.model.specs.Refusal.{Check, accepted}
use Rattle.model.specs.declared.refusal.Refusal.{Refusal}
use Rattle.model.specs.Answer.{answer, written}

-- a refusal of the check is answered
pub answer-refused : {Value : Type 0} {r : Check} {x : Refusal} (value : Value) → r ≡ Err x → ◌≡◌ {A = Result Value Refusal} (Err x) (answer r value)
unfolding answer
answer-refused value e = rw e

-- where it accepts, the value is
pub answer-accepted : {Value : Type 0} {r : Check} (value : Value) → r ≡ accepted → ◌≡◌ {A = Result Value Refusal} (Ok value) (answer r value)
unfolding answer
answer-accepted value e = rw e

-- and back: a value that is answered was accepted
pub answered : {Value : Type 0} (r : Check) (value : Value) {told : Value} → ◌≡◌ {A = Result Value Refusal} (Ok told) (answer r value) → (r ≡ accepted) × (told ≡ value)
unfolding answer
answered (Ok done) value e = (refl, cc)
answered (Err x) value e = absurd (let z : ◌≡◌ {A = ℕ} 0 1 = cc in omega arith)

-- and a refusal that is answered is the check's
pub refusal-answered : {Value : Type 0} (r : Check) (value : Value) {x : Refusal} → ◌≡◌ {A = Result Value Refusal} (Err x) (answer r value) → r ≡ Err x
unfolding answer
refusal-answered (Ok done) value e = absurd (let z : ◌≡◌ {A = ℕ} 0 1 = cc in omega arith)
refusal-answered (Err x) value e = cc

-- a refusal leaves a list as it was
pub written-refused : {r : Check} {x : Refusal} (answers old : List ℕ) → r ≡ Err x → old ≡ written r answers old
unfolding written
written-refused answers old e = rw e

-- on acceptance: the answers, and behind them what stood there
pub written_is : {r : Check} (answers old : List ℕ) → r ≡ accepted → written r answers old ≡ answers ++ drop (length answers) old
unfolding written
written_is answers old e = rw e

-- answers that leave nothing behind them
pub written-whole : {r : Check} (answers old : List ℕ) → r ≡ accepted → length old ≤ length answers → written r answers old ≡ answers
unfolding written
written-whole answers old e h = rw (e, drop_of_length-le old h, append-nil)

-- as many answers as the list has places fill it
pub written_all : {r : Check} (answers old new : List ℕ) → r ≡ accepted → new ≡ answers → length new ≡ length old → new ≡ written r answers old
written_all answers old new accepted e l = e ∙ sym (written-whole answers old accepted (omega (arith, ap length e)))

-- on acceptance the answers stand in front of what stood behind them
pub written-accepted : {r : Check} {n : ℕ} (answers old new : List ℕ) → r ≡ accepted → length answers ≡ n → new ≡ answers ++ drop n old → new ≡ written r answers old
unfolding written
written-accepted answers old new accepted e is = rw (accepted, e) is
