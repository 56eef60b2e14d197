-- What a reader answers and leaves in its answer lists, whichever text it reads: an outcome as a check and as a list,
-- then one answer list filled, and three.
use Rattle.std.specs.Prelude.{List, [], ◌≡◌, ℕ, length, Result, Ok, Err}
use Rattle.model.specs.Answer.{answer, written}
use Rattle.model.specs.Checks.{same_length_of, room_check}
use Rattle.model.specs.Refusal.{or_else, Check, accepted, refusal}
use Rattle.model.specs.declared.refusal.Refusal.{Refusal}
use Rattle.text.specs.Reading.{Outcome, read, refused_at}

-- an outcome as a check
unfoldable pub check_of : {State : Type 0} → Outcome State → Check
check_of (read s) = accepted
check_of (refused_at fault place) = refusal fault place

-- the entries of a list that was read, none otherwise
unfoldable pub list_in : {A : Type 0} → Outcome (List A) → List A
list_in (read xs) = xs
list_in (refused_at fault place) = []

-- how many entries were read
unfoldable pub entries : Result ℕ Refusal → ℕ
entries (Ok count) = count
entries (Err r) = 0

-- one answer list filled with values, or too short for them
pub record Answered (xs old : List ℕ) (r : Result ℕ Refusal) (new : List ℕ) : Type 0 where
  pub answer : r ≡ answer (room_check (length xs) old) (length xs)
  pub after : new ≡ written (room_check (length xs) old) xs old

-- 2 for three answer lists
unfoldable pub rooms_check : ℕ → List ℕ → List ℕ → List ℕ → Check
rooms_check n first second third = or_else (room_check n first) (or_else (room_check n second) (room_check n third))

-- 2 for three lists of values that differ in length, then for the answer lists
unfoldable pub three_check : List ℕ → List ℕ → List ℕ → List ℕ → List ℕ → List ℕ → Check
three_check xs ys zs first second third =
    or_else (same_length_of ys xs) (or_else (same_length_of zs xs) (rooms_check (length xs) first second third))

-- three answer lists filled with values, or 2
pub record AnsweredThree (xs ys zs first second third : List ℕ) (r : Check) (first' second' third' : List ℕ) : Type 0 where
  pub answer : r ≡ three_check xs ys zs first second third
  pub first_after : first' ≡ written r xs first
  pub second_after : second' ≡ written r ys second
  pub third_after : third' ≡ written r zs third
