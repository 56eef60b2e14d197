-- A line's tests one after the other: one that holds hands on to the next, the first that fails decides.
use mathlib.Core.Bool.{Bool, true, false}
use mathlib.Core.Path.{◌≡◌, refl}
use Prim.Native.Nat.{ℕ}
use native.Mathlib.Omega.{arith}
use Rattle.model.specs.declared.refusal.Fault.{Fault}
use Rattle.text.specs.Reading.{Step, taken, refused, require}

module _ {State : Type 0} (fault : Fault) where
  pub holds : {good : Bool} {onward to : Step State} → good ≡ true → onward ≡ to → require good fault onward ≡ to
  unfolding require
  holds e on = rw e on

  pub fails : {good : Bool} (onward : Step State) → good ≡ false → require good fault onward ≡ refused fault
  unfolding require
  fails onward e = rw e

  -- of a line that is taken every test holds
  pub passed : (good : Bool) {onward : Step State} {s : State} → require good fault onward ≡ taken s → (good ≡ true) × (onward ≡ taken s)
  unfolding require
  passed true e = (refl, e)
  passed false e = absurd (let z : ◌≡◌ {A = ℕ} 0 1 = cc in omega arith)
