-- The fields of a line that was made of fields are those fields, and numbers are read back from it.
use mathlib.Core.Bool.{true}
use mathlib.Core.List.{List, [], ◌∷◌, ◌++◌, map}
use mathlib.Core.Path.{◌≡◌, refl, ap, ◌∙◌}
use Prim.Native.Nat.{ℕ, ◌≤◌, ◌<◌}
use native.Mathlib.Omega.{arith}
use borrow.Author.Tests.{eq-eqb}
use Rattle.model.proofs.Laws.Refusal.{both_true}
use Rattle.text.specs.Fields.{space, fields, same_bytes_of, begins_with_of, numbers_in, of_one, of_two, of_three}
use Rattle.text.specs.Lines.{in_front}
use Rattle.text.specs.NetworkText.{ArcRead, network_line_text, problem_in, arc_in}
use Rattle.text.specs.Numbers.{max_number}
use Rattle.text.specs.declared.fields.Numbers.TheVariants.{One, Two, Three}
use Rattle.text.specs.declared.network_line.NetworkLine.TheVariants.{Problem, Arc}
use Rattle.text.specs.Digits.{digits}
use Rattle.text.specs.Texts.{parted, numbered, problem_line, arc_line, lacks}
use Rattle.text.proofs.Laws.Lacking.{all_lack, digits-lack, map-lack, first-other}
use Rattle.text.proofs.Laws.DigitsRead.{read_back}

-- a field and the separator behind it
fields-ended : (sep : ℕ) (field rest : List ℕ) → lacks sep field ≡ true → fields sep (field ++ (sep ∷ rest)) ≡ field ∷ fields sep rest
unfolding fields in_front
fields-ended sep [] rest free = simp (eq-eqb sep sep refl)
fields-ended sep (b ∷ bs) rest free =
    let other = first-other sep b bs free in
    simp (other.0, fields-ended sep bs rest other.1)

-- a field alone
fields-one : (sep : ℕ) (field : List ℕ) → lacks sep field ≡ true → fields sep field ≡ field ∷ []
unfolding fields in_front
fields-one sep [] free = refl
fields-one sep (b ∷ bs) free =
    let other = first-other sep b bs free in
    simp (other.0, fields-one sep bs other.1)

-- fields none of which holds the separator, one at least
pub fields-parted : (sep : ℕ) (first : List ℕ) (more : List (List ℕ)) → all_lack sep (first ∷ more) ≡ true → fields sep (parted sep (first ∷ more)) ≡ first ∷ more
unfolding parted all_lack
fields-parted sep first [] free = fields-one sep first (both_true (lacks sep first) true free).0
fields-parted sep first (next ∷ more) free =
    let both = both_true (lacks sep first) (all_lack sep (next ∷ more)) free in
    fields-ended sep first (parted sep (next ∷ more)) both.0
    ∙ ap (λ (rest : List (List ℕ)). first ∷ rest) (fields-parted sep next more both.1)

-- Numbers with a separator between them, a byte below the digits.
module _ (sep : ℕ) (below : sep < 48) where
  -- the fields are the numbers' digits
  pub fields-numbered : (n : ℕ) (more : List ℕ) → fields sep (numbered sep (n ∷ more)) ≡ map digits (n ∷ more)
  unfolding numbered
  fields-numbered n more = fields-parted sep (digits n) (map digits more) (map-lack sep digits (digits-lack sep below) (n ∷ more))

  -- one, two or three of them are read back
  module _ (a : ℕ) (small-a : a ≤ max_number) where
    pub read_one : numbers_in (fields sep (digits a)) ≡ One a
    unfolding numbers_in of_one
    read_one = rw (fields-one sep (digits a) (digits-lack sep below a)) (simp (read_back a small-a))

    module _ (b : ℕ) (small_b : b ≤ max_number) where
      pub read-two : numbers_in (fields sep (numbered sep (a ∷ b ∷ []))) ≡ Two a b
      unfolding numbers_in of_two
      read-two = rw (fields-numbered a (b ∷ [])) (simp (read_back a small-a, read_back b small_b))

      pub read-three : (c : ℕ) → c ≤ max_number → numbers_in (fields sep (numbered sep (a ∷ b ∷ c ∷ []))) ≡ Three a b c
      unfolding numbers_in of_three
      read-three c small-c = rw (fields-numbered a (b ∷ c ∷ [])) (simp (read_back a small-a, read_back b small_b, read_back c small-c))

-- a `p` line is read as such
pub problem-line : (n m : ℕ) → n ≤ max_number → m ≤ max_number → network_line_text (problem_line n m) ≡ Problem n m
unfolding network_line_text problem_line problem_in same_bytes_of begins_with_of
problem-line n m small_n small-m = rw (read-two space (omega arith) n small_n m small-m)

-- an arc line too
pub arc-line : (a : ArcRead) → a.from ≤ max_number → a.to ≤ max_number → a.weight ≤ max_number → network_line_text (arc_line a) ≡ Arc a.from a.to a.weight
unfolding network_line_text arc_line arc_in same_bytes_of begins_with_of
arc-line a small-u small-v small-w = rw (read-three space (omega arith) a.from small-u a.to small-v a.weight small-w)
