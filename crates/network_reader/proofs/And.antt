-- Tests made one after the other are one test.
use mathlib.Core.Bool.{Bool, true, false, ◌&&◌}
use mathlib.Core.Path.{◌≡◌}

-- the first fails
pub and-fails : {a : Bool} (b : Bool) → a ≡ false → false ≡ (a && b)
and-fails b e = rw e

-- the first holds: the second decides
pub and-next : {a b r : Bool} → a ≡ true → r ≡ b → r ≡ (a && b)
and-next e f = rw e f
