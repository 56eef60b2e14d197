-- How many bytes the parts of a line take, and how the room that is left is counted down.
use mathlib.Core.Bool.{Bool, true, false}
use mathlib.Core.List.{List, ◌∷◌}
use mathlib.Core.Path.{◌≡◌, refl, sym}
use Prim.Native.Nat.{ℕ, ◌+◌, ◌-◌, ◌≤◌, ◌<◌}
use native.Mathlib.Omega.{arith}
use borrow.Author.Tests.{le-leb, lt-leb, leb-true, leb-false}
use lib.Dec.{leb}
use lib.ListN.{length, length-append}
use Rattle.model.specs.Envelope.{Envelope, no_value, between}
use Rattle.text.specs.Digits.{digits}
use Rattle.text.specs.Fields.{comma}
use Rattle.printing.specs.Bytes.{span, row, refusal_line}
use Rattle.text.proofs.Laws.Digits.{digits-few}

-- what fits behind the first a bytes
pub fits-behind : (a b room : ℕ) → a ≤ room → leb b (room - a) ≡ leb (a + b) room
fits-behind a b room h = go (leb b (room - a)) refl
  where
    go : (t : Bool) → leb b (room - a) ≡ t → leb b (room - a) ≡ leb (a + b) room
    go true e = rw (e, le-leb (a + b) room (omega (arith, leb-true b (room - a) e)))
    go false e = rw (e, lt-leb (a + b) room (omega (arith, leb-false b (room - a) e)))

-- where the first bytes do not fit, all do not
pub too_long : (a b room : ℕ) → room < a → false ≡ leb (a + b) room
too_long a b room h = sym (lt-leb (a + b) room (omega arith))

-- least and greatest, each behind its comma
pub span-length : (least greatest : ℕ) → length (comma ∷ span (between least greatest)) ≡ length (comma ∷ digits least) + length (comma ∷ digits greatest)
unfolding span
span-length least greatest = length-append (comma ∷ digits least) (comma ∷ digits greatest)

pub span-few : (envelope : Envelope) → length (comma ∷ span envelope) ≤ 42
unfolding span
span-few no_value = omega arith
span-few (between least greatest) = rw length-append (omega (arith, digits-few least, digits-few greatest))

pub row-length : (threshold observed : ℕ) (envelope : Envelope) → length (row threshold observed envelope) ≡ length (digits threshold) + length (comma ∷ digits observed) + length (comma ∷ span envelope) + 2
unfolding row
row-length threshold observed envelope = simp length-append (omega arith)

pub refusal-length : (file : List ℕ) (number place : ℕ) → length (refusal_line file number place) ≡ length file + (8 + (1 + length (digits number)) + (1 + length (digits place)) + 2)
unfolding refusal_line
refusal-length file number place = simp length-append (omega arith)
