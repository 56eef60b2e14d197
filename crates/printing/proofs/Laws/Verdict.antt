-- The verdicts on what is to be printed, and what the answer and the list of bytes then are.
use mathlib.Core.Bool.{Bool, true, false}
use mathlib.Core.List.{List}
use mathlib.Core.Path.{◌≡◌, sym, ◌∙◌}
use Prim.Native.Nat.{ℕ, ◌+◌, ◌-◌, ◌≤◌, ◌<◌}
use native.Mathlib.Nat.{zero-add}
use native.Mathlib.Omega.{arith}
use lib.Dec.{leb}
use lib.ListN.{length}
use Rattle.std.specs.Prelude.{Result, Ok, Err}
use Rattle.model.specs.Answer.{answer}
use Rattle.model.specs.Checks.{same_length_of, room_check, thresholds_check}
use Rattle.model.specs.Refusal.{Check, accepted, refusal}
use Rattle.model.specs.declared.refusal.Fault.TheVariants.{ListsDiffer}
use Rattle.model.specs.declared.refusal.Refusal.{Refusal}
use Rattle.model.proofs.Laws.CheckParts.{same-length-accepts, room-accepted}
use Rattle.model.proofs.Laws.Refusal.{both-accepted, both-accept, or-else-accepted, or-else-next, or-else-refused, unless-refuses}
use Rattle.printing.specs.Answers.{rows, table_bytes, columns_check, table_bytes_check}
use Rattle.printing.specs.Writing.{Put, Room}
use Rattle.printing.proofs.Laws.Sizes.{fits-behind, too_long}

-- of what is printed the length is answered
pub bytes-answer : {check : Check} {out bytes out' : List ℕ} {r : ℕ} → check ≡ accepted → Put out 0 bytes out' r → ◌≡◌ {A = Result ℕ Refusal} (Ok r) (answer check (length bytes))
unfolding answer
bytes-answer e p = rw (e, p.next, zero-add)

-- too little room
pub room-refused : (n : ℕ) (out : List ℕ) → leb n (length out) ≡ false → room_check n out ≡ refusal ListsDiffer 0
unfolding room_check
room-refused n out e = unless-refuses _ ListsDiffer 0 e

-- room at the front
pub room-at-front : (bytes out : List ℕ) → length bytes ≤ length out → Room out 0 bytes
unfolding Room
room-at-front bytes out h = omega arith

module _ (comparisons : Bool) (ts observed lower upper : List ℕ) where
  -- an observed column of another length is refused, whether there are comparison sets or not
  pub observed-differs : {r : Check} {x : Refusal} → r ≡ same_length_of ts observed → r ≡ Err x → columns_check comparisons ts observed lower upper ≡ Err x
  unfolding columns_check
  observed-differs {r} {x} e refused = go comparisons
    where
      go : (b : Bool) → columns_check b ts observed lower upper ≡ Err x
      go true = or-else-refused _ (sym e ∙ refused)
      go false = sym e ∙ refused

  -- columns of one length
  pub all_same : length ts ≡ length observed → length ts ≡ length lower → length ts ≡ length upper → accepted ≡ columns_check comparisons ts observed lower upper
  unfolding columns_check
  all_same o l u = go comparisons
    where
      go : (b : Bool) → accepted ≡ columns_check b ts observed lower upper
      go true = sym (both-accept (same-length-accepts ts observed o) (both-accept (same-length-accepts ts lower l) (same-length-accepts ts upper u)))
      go false = sym (same-length-accepts ts observed o)

  -- the line of names has 35 bytes
  table-length : length (table_bytes comparisons ts observed lower upper) ≡ 35 + length (rows comparisons ts observed lower upper 0 (length ts))
  unfolding table_bytes
  table-length = omega arith

  -- whether the rows fit behind the line of names, and a room that is too short for the names
  pub rows-decide : (room : ℕ) → 35 ≤ room → leb (length (rows comparisons ts observed lower upper 0 (length ts))) (room - 35) ≡ leb (length (table_bytes comparisons ts observed lower upper)) room
  rows-decide room enough = rw table-length (fits-behind 35 _ room enough)

  pub no-names : (room : ℕ) → room < 35 → false ≡ leb (length (table_bytes comparisons ts observed lower upper)) room
  no-names room short = rw table-length (too_long 35 _ room short)

  -- with columns of one length and thresholds that pass, the room alone decides
  pub room-decides : (out : List ℕ) → length ts ≡ length observed → length ts ≡ length lower → length ts ≡ length upper → thresholds_check ts ≡ accepted → table_bytes_check comparisons ts observed lower upper out ≡ room_check (length (table_bytes comparisons ts observed lower upper)) out
  unfolding table_bytes_check
  room-decides out o l u pass = or-else-next _ (sym (all_same o l u)) ∙ rw pass (or-else-accepted _)

  -- what acceptance tells
  pub accepted-table : (out : List ℕ) → table_bytes_check comparisons ts observed lower upper out ≡ accepted → Room out 0 (table_bytes comparisons ts observed lower upper)
  unfolding table_bytes_check
  accepted-table out e = room-at-front _ out (room-accepted _ out (both-accepted _ _ (both-accepted _ _ e).1).0)
