-- Laws of fields: equal bytes, the first field of a line, and the numbers of a line.
use mathlib.Core.Bool.{Bool, true, false, cond, ◌&&◌}
use mathlib.Core.List.{List, [], ◌∷◌}
use mathlib.Core.Path.{◌≡◌, refl, ap, ◌∙◌}
use Prim.Native.Nat.{ℕ, suc, ◌+◌, ◌-◌, ◌≤◌, ◌<◌}
use native.Mathlib.Numerals.{add-one}
use native.Mathlib.Omega.{arith}
use lib.Dec.{eqb}
use lib.Pointwise.{pointwise}
use lib.ListN.{length, take, drop, length-drop}
use lib.Seq.{take_all}
use Rattle.std.proofs.Common.{Option}
use Rattle.std.proofs.lemmas.Bool.Decides.{nat_tests}
use Rattle.text.specs.Lines.{in_front}
use Rattle.text.specs.Numbers.{number_of}
use Rattle.text.specs.Fields.{fields, same_bytes_of, begins_with_of, numbers_in, of_one, of_two, of_three}
use Rattle.text.specs.Places.{first_at}
use Rattle.text.specs.declared.fields.Numbers.TheVariants.{Nothing}

-- what `==` answers for two slices
pub same-pointwise : (a b : List ℕ) → same_bytes_of a b ≡ pointwise eqb a b
unfolding same_bytes_of
same-pointwise [] [] = refl
same-pointwise [] (d ∷ ds) = refl
same-pointwise (b ∷ bs) [] = refl
same-pointwise (b ∷ bs) (d ∷ ds) = ap (λ (same : Bool). eqb b d && same) (same-pointwise bs ds)

-- the same with the lists in the other order
eqb-turned : (b d : ℕ) → eqb b d ≡ eqb d b
eqb-turned b d = grind (arith, nat_tests)

pointwise-turned : (a b : List ℕ) → pointwise eqb a b ≡ pointwise eqb b a
pointwise-turned [] [] = refl
pointwise-turned [] (d ∷ ds) = refl
pointwise-turned (b ∷ bs) [] = refl
pointwise-turned (b ∷ bs) (d ∷ ds) = rw (eqb-turned b d, pointwise-turned bs ds)

-- what `starts_with` answers
pub begins-pointwise : (bytes line : List ℕ) → begins_with_of bytes line ≡ pointwise eqb bytes (take (length bytes) line)
unfolding begins_with_of
begins-pointwise bytes line = same-pointwise (take (length bytes) line) bytes ∙ pointwise-turned (take (length bytes) line) bytes

-- what `strip_prefix` tests
pub strips-pointwise : (bytes line : List ℕ) → begins_with_of bytes line ≡ pointwise eqb (take (length bytes) line) bytes
unfolding begins_with_of
strips-pointwise bytes line = same-pointwise (take (length bytes) line) bytes

-- a line with no separator is one field
pub fields-alone : (sep : ℕ) (line : List ℕ) → length line ≤ first_at sep line → fields sep line ≡ line ∷ []
unfolding fields first_at in_front
fields-alone sep [] = λ h. refl
fields-alone sep (b ∷ bs) = go (eqb b sep) (fields-alone sep bs)
  where
    go :
        (same : Bool)
        → (length bs ≤ first_at sep bs → fields sep bs ≡ bs ∷ [])
        → suc (length bs) ≤ cond same 0 (suc (first_at sep bs))
        → cond same ([] ∷ fields sep bs) (in_front b (fields sep bs)) ≡ (b ∷ bs) ∷ []
    go true k h = absurd (omega arith)
    go false k h = ap (in_front b) (k (omega arith))

-- the first field stands before the first separator
pub fields-first : (sep : ℕ) (line : List ℕ) → first_at sep line < length line → fields sep line ≡ take (first_at sep line) line ∷ fields sep (drop (first_at sep line + 1) line)
unfolding fields first_at in_front
fields-first sep [] = λ h. absurd (omega arith)
fields-first sep (b ∷ bs) = go (eqb b sep) (fields-first sep bs)
  where
    go :
        (same : Bool)
        → (first_at sep bs < length bs → fields sep bs ≡ take (first_at sep bs) bs ∷ fields sep (drop (first_at sep bs + 1) bs))
        → cond same 0 (suc (first_at sep bs)) < suc (length bs)
        → cond same ([] ∷ fields sep bs) (in_front b (fields sep bs))
        ≡ take (cond same 0 (suc (first_at sep bs))) (b ∷ bs) ∷ fields sep (drop (cond same 0 (suc (first_at sep bs)) + 1) (b ∷ bs))
    go true k h = refl
    go false k h = ap (in_front b) (k (omega arith)) ∙ simp add-one

-- a line has at least one field, so three fields before it make four or more
pub fields-four : (a b c : List ℕ) (sep : ℕ) (line : List ℕ) → Nothing ≡ numbers_in (a ∷ b ∷ c ∷ fields sep line)
unfolding fields numbers_in in_front
fields-four a b c sep [] = refl
fields-four a b c sep (d ∷ ds) = go (eqb d sep) (fields sep ds)
  where
    go : (same : Bool) (more : List (List ℕ)) → Nothing ≡ numbers_in (a ∷ b ∷ c ∷ cond same ([] ∷ more) (in_front d more))
    go true more = refl
    go false [] = refl
    go false (m ∷ ms) = refl

-- the same with what code holds: the place that was found, and the part of a slice that was lent
abbrev pub rest_from : ℕ → List ℕ → List ℕ
rest_from n line = take (length line - n) (drop n line)

pub rest-from-drop : (n : ℕ) (line : List ℕ) → rest_from n line ≡ drop n line
rest-from-drop n line = take_all (length line - n) (drop n line) (omega (arith, length-drop n line))

module _ (sep : ℕ) (line : List ℕ) (i : ℕ) (found : i ≡ first_at sep line) where
  pub alone_at : length line ≤ i → fields sep line ≡ line ∷ []
  alone_at h = fields-alone sep line (rw found at h)

  pub first_at_of : i < length line → fields sep line ≡ take i line ∷ fields sep (rest_from (i + 1) line)
  first_at_of h = rw rest-from-drop (rw found (fields-first sep line (rw found at h)))

-- the numbers of one, two or three fields, each read by itself
module _ (line a : List ℕ) (x : Option ℕ) (first : x ≡ number_of a) (sep : ℕ) where
  pub numbers-one : fields sep line ≡ a ∷ [] → of_one x ≡ numbers_in (fields sep line)
  unfolding numbers_in
  numbers-one e = simp (e, first)

  module _ (b : List ℕ) (y : Option ℕ) (second : y ≡ number_of b) (behind : List ℕ) (e : fields sep line ≡ a ∷ fields sep behind) where
    pub numbers-two : fields sep behind ≡ b ∷ [] → of_two x y ≡ numbers_in (fields sep line)
    unfolding numbers_in
    numbers-two k = simp (e, k, first, second)

    module _ (last : List ℕ) (k : fields sep behind ≡ b ∷ fields sep last) where
      pub numbers-three : (c : List ℕ) (z : Option ℕ) → z ≡ number_of c → fields sep last ≡ c ∷ [] → of_three x y z ≡ numbers_in (fields sep line)
      unfolding numbers_in
      numbers-three c z third m = simp (e, k, m, first, second, third)

      pub numbers-four : (d more : List ℕ) → fields sep last ≡ d ∷ fields sep more → Nothing ≡ numbers_in (fields sep line)
      numbers-four d more m = fields-four a b d sep more ∙ simp (e, k, m)
