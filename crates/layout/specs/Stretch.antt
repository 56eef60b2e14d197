-- The stretch of one edge: the laid-out offsets that belong to it, and number and place told beside it.
use Rattle.std.specs.Prelude.{List, [], ◌≡◌, ℕ, Ok, Err}
use Rattle.model.specs.Checks.{laid_out_check}
use Rattle.model.specs.Events.{having}
use Rattle.model.specs.Network.{Network}
use Rattle.model.specs.Refusal.{number_of, place_of, Check}

-- empty where it is refused
unfoldable pub stretch_of : Check → ℕ → List ℕ → List ℕ → List ℕ
stretch_of (Ok done) edge es xs = having edge es xs
stretch_of (Err r) edge es xs = []

-- the promise: the part handed back, and what is told beside it
pub record StretchAnswered (net : Network) (es xs : List ℕ) (edge : ℕ) (r : List ℕ) (number place : ℕ) : Type 0 where
  pub stretch_is : r ≡ stretch_of (laid_out_check net es xs edge) edge es xs
  pub number_is : number ≡ number_of (laid_out_check net es xs edge)
  pub place_is : place ≡ place_of (laid_out_check net es xs edge)
