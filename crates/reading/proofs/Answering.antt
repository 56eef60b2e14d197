-- What an answer and the answer lists are, from what a check said.
use mathlib.Core.List.{List, ◌++◌}
use mathlib.Core.Path.{◌≡◌, refl, ◌∙◌}
use Prim.Native.Nat.{ℕ, ◌≤◌}
use native.Mathlib.Omega.{arith}
use lib.ListN.{length, drop}
use Rattle.std.specs.Prelude.{Ok, Err}
use Rattle.model.proofs.Laws.Answer.{answer-refused, answer-accepted, written-refused, written-accepted}
use Rattle.model.proofs.Laws.CheckParts.{same-length-accepted, same-length-accepts, room-accepted}
use Rattle.model.proofs.Laws.Refusal.{both-accepted, or-else-next}
use Rattle.model.specs.Refusal.{Check, accepted}
use Rattle.model.specs.Checks.{same_length_of, room_check}
use Rattle.model.specs.declared.refusal.Refusal.{Refusal}
use Rattle.reading.specs.Answers.{Answered, rooms_check, three_check, AnsweredThree}

-- One answer list: refused, or filled.
module _ (xs old : List ℕ) where
  pub too_short : {x : Refusal} → room_check (length xs) old ≡ Err x → Answered xs old (Err x) old
  too_short e = record { answer = answer-refused _ e; after = written-refused xs old e }

  pub filled : {new : List ℕ} → room_check (length xs) old ≡ accepted → new ≡ xs ++ drop (length xs) old → Answered xs old (Ok (length xs)) new
  filled e f = record { answer = answer-accepted _ e; after = written-accepted xs old _ e refl f }

-- The check of three lists of values and three answer lists.
module _ (xs ys zs first second third : List ℕ) where
  -- of lists of one length the rooms decide
  pub rooms-decide : length ys ≡ length xs → length zs ≡ length xs → three_check xs ys zs first second third ≡ rooms_check (length xs) first second third
  unfolding three_check
  rooms-decide y z = or-else-next _ (same-length-accepts ys xs y) ∙ or-else-next _ (same-length-accepts zs xs z)

  -- accepted: each list has room for its values
  pub record Rooms : Type 0 where
    pub one : length xs ≤ length first
    pub two : length ys ≤ length second
    pub three : length zs ≤ length third

  pub have-room : three_check xs ys zs first second third ≡ accepted → Rooms
  unfolding three_check rooms_check
  have-room e =
      let y = both-accepted (same_length_of ys xs) _ e in
      let z = both-accepted (same_length_of zs xs) _ y.1 in
      let a = both-accepted (room_check (length xs) first) _ z.1 in
      let b = both-accepted (room_check (length xs) second) _ a.1 in
      record {
        one = room-accepted (length xs) first a.0;
        two = omega (arith, room-accepted (length xs) second b.0, same-length-accepted ys xs y.0);
        three = omega (arith, room-accepted (length xs) third b.1, same-length-accepted zs xs z.0);
      }

-- Three answer lists.
module _ {xs ys zs first second third : List ℕ} {r : Check} (is : r ≡ three_check xs ys zs first second third) where
  pub three-refused : {x : Refusal} → r ≡ Err x → AnsweredThree xs ys zs first second third r first second third
  three-refused e = record { answer = is; first_after = written-refused xs first e; second_after = written-refused ys second e; third_after = written-refused zs third e }

  pub three-filled : {first' second' third' : List ℕ} → r ≡ accepted → first' ≡ xs ++ drop (length xs) first → second' ≡ ys ++ drop (length ys) second → third' ≡ zs ++ drop (length zs) third → AnsweredThree xs ys zs first second third r first' second' third'
  three-filled e f s t = record { answer = is; first_after = written-accepted xs first _ e refl f; second_after = written-accepted ys second _ e refl s; third_after = written-accepted zs third _ e refl t }
