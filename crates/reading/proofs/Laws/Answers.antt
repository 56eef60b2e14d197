-- What an answer says of the check behind it and of the answer lists.
use mathlib.Core.List.{List}
use mathlib.Core.Path.{◌≡◌, refl, ap, ◌∙◌}
use Prim.Native.Nat.{ℕ, ◌≤◌}
use borrow.Author.Tests.{le-leb}
use lib.ListN.{length, take, drop}
use lib.Seq.{take-append_seam}
use Rattle.model.proofs.Laws.CheckParts.{room-accepts}
use Rattle.model.proofs.Laws.Refusal.{not-accepted, both-accept, unless-accepts}
use Rattle.model.specs.Answer.{written}
use Rattle.model.specs.Refusal.{Check, accepted}
use Rattle.text.specs.Reading.{Outcome, read, refused_at, length_check, max_bytes}
use Rattle.reading.specs.Answers.{check_of, list_in, rooms_check}

-- an outcome that is accepted was read
pub list_read : {A : Type 0} (o : Outcome (List A)) → check_of o ≡ accepted → o ≡ read (list_in o)
unfolding check_of list_in
list_read (read xs) e = refl
list_read (refused_at number place) e = not-accepted e

-- what was read is accepted, and it is the list
pub read-accepted : {State : Type 0} {o : Outcome State} {s : State} → o ≡ read s → check_of o ≡ accepted
unfolding check_of
read-accepted e = rw e

pub list-is : {A : Type 0} {o : Outcome (List A)} {xs : List A} → o ≡ read xs → list_in o ≡ xs
unfolding list_in
list-is e = rw e

-- a text that is no longer than a text may be
pub short-enough : (bytes : List ℕ) → length bytes ≤ max_bytes → length_check bytes ≡ accepted
unfolding length_check
short-enough bytes h = unless-accepts _ _ _ (le-leb (length bytes) max_bytes h)

-- three answer lists with room
pub rooms-accept : (n : ℕ) (first second third : List ℕ) → n ≤ length first → n ≤ length second → n ≤ length third → rooms_check n first second third ≡ accepted
unfolding rooms_check
rooms-accept n first second third one two three =
    both-accept (room-accepts n first one) (both-accept (room-accepts n second two) (room-accepts n third three))

-- an answer list begins with what was read
pub front_is : {check : Check} (xs old : List ℕ) {new : List ℕ} → new ≡ written check xs old → check ≡ accepted → take (length xs) new ≡ xs
unfolding written
front_is xs old e a = ap (take (length xs)) (e ∙ rw a) ∙ take-append_seam xs (drop (length xs) old)
