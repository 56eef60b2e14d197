-- Every number that a line's fields hold is at most the limit.
use mathlib.Core.List.{List, [], ◌∷◌}
use mathlib.Core.Path.{◌≡◌, refl}
use Prim.Native.Nat.{ℕ, ◌≤◌}
use Rattle.std.proofs.Common.{Option, Some, None}
use Rattle.text.specs.Numbers.{max_number, number_of}
use Rattle.text.specs.Fields.{numbers_in, of_one, of_two, of_three}
use Rattle.text.specs.declared.fields.Numbers.{Numbers}
use Rattle.text.specs.declared.fields.Numbers.TheVariants.{Nothing, One, Two, Three}
use Rattle.text.proofs.Laws.Numbers.{number_bound}

abbrev pub Within : Option ℕ → Type 0
Within None = Unit {0}
Within (Some x) = x ≤ max_number

abbrev pub AllWithin : Numbers → Type 0
AllWithin Nothing = Unit {0}
AllWithin (One x) = x ≤ max_number
AllWithin (Two x y) = (x ≤ max_number) × (y ≤ max_number)
AllWithin (Three x y z) = (x ≤ max_number) × (y ≤ max_number) × (z ≤ max_number)

pub number-within : (field : List ℕ) → Within (number_of field)
number-within field = go (number_of field) (number_bound field)
  where
    go : (n : Option ℕ) → ((x : ℕ) → n ≡ Some x → x ≤ max_number) → Within n
    go None h = tt
    go (Some x) h = h x refl

-- together they are as bounded as each by itself
one-within : (a : Option ℕ) → Within a → AllWithin (of_one a)
unfolding of_one
one-within None p = tt
one-within (Some x) p = p

two-within : (a b : Option ℕ) → Within a → Within b → AllWithin (of_two a b)
unfolding of_two
two-within None b p q = tt
two-within (Some x) None p q = tt
two-within (Some x) (Some y) p q = (p, q)

three-within : (a b c : Option ℕ) → Within a → Within b → Within c → AllWithin (of_three a b c)
unfolding of_three
three-within None b c p q r = tt
three-within (Some x) None c p q r = tt
three-within (Some x) (Some y) None p q r = tt
three-within (Some x) (Some y) (Some z) p q r = (p, q, r)

pub numbers-within : (parts : List (List ℕ)) → AllWithin (numbers_in parts)
unfolding numbers_in
numbers-within [] = tt
numbers-within (a ∷ []) = one-within _ (number-within a)
numbers-within (a ∷ b ∷ []) = two-within _ _ (number-within a) (number-within b)
numbers-within (a ∷ b ∷ c ∷ []) = three-within _ _ _ (number-within a) (number-within b) (number-within c)
numbers-within (a ∷ b ∷ c ∷ d ∷ more) = tt
