-- A text read line by line: the first bad line decides. Lines are numbered from 1.
use Rattle.std.specs.Prelude.{Bool, cond, List, [], ◌∷◌, ℕ, suc, leb, length}
use Rattle.model.specs.Refusal.{unless, Check}
use Rattle.model.specs.declared.refusal.Fault.{Fault}
use Rattle.model.specs.declared.refusal.Fault.TheVariants.{TooLong}

-- what a line does to what was read before it: it is taken in, or it is refused with a fault
pub data Step (State : Type 0) : Type 0 where
  taken : State → Step State
  refused : Fault → Step State

-- what a whole text comes to: what was read, or the refusal's fault and place
pub data Outcome (State : Type 0) : Type 0 where
  read : State → Outcome State
  refused_at : Fault → ℕ → Outcome State

-- a line that was refused stops the reading at its place
unfoldable pub next : {State : Type 0} → Step State → ℕ → (State → Outcome State) → Outcome State
next (taken s) place on = on s
next (refused fault) place on = refused_at fault place

unfoldable pub read_lines : {State : Type 0} → (State → List ℕ → Step State) → ℕ → State → List (List ℕ) → Outcome State
read_lines step place s [] = read s
read_lines step place s (line ∷ more) = next (step s line) place (λ s'. read_lines step (suc place) s' more)

-- one test of a line: where it fails the line is refused with this fault. Tests follow each other by rising number, so that the lowest
-- decides
unfoldable pub require : {State : Type 0} → Bool → Fault → Step State → Step State
require good fault onward = cond good onward (refused fault)

abbrev pub max_bytes : ℕ
max_bytes = 60000

-- 1: the text is too long
unfoldable pub length_check : List ℕ → Check
length_check bytes = unless (leb (length bytes) max_bytes) TooLong 0
