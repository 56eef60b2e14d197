-- Bytes put one behind the other come to the same list as all of them put at once.
use Rattle.model.specs.Refusal.{Check, accepted}
use mathlib.Core.List.{List, [], ◌∷◌, ◌++◌, append_assoc}
use mathlib.Core.Path.{◌≡◌, refl, sym, ap, ◌∙◌}
use Prim.Native.Nat.{ℕ, ◌+◌, ◌-◌, ◌≤◌, ◌<◌}
use native.Mathlib.Nat.{add-zero, zero-add}
use native.Mathlib.Numerals.{add-one}
use native.Mathlib.Omega.{arith}
use borrow.Rule.Slice.PartMut.{put_mid, Post-is}
use lib.ListN.{length, get_or, take, drop, set, length-append, length-drop, take-append-drop, drop_of_length-le}
use lib.Seq.{length-take-le, take_at, drop_at, drop-cons, drop-drop, set_split}
use Rattle.model.specs.Answer.{written}
use Rattle.printing.specs.Writing.{with_bytes, Room, Put}

module _ (out : List ℕ) (place : ℕ) (xs : List ℕ) (inside : place ≤ length out) where
  abbrev front : List ℕ
  front = take place out ++ xs

  -- the part up to the end of the bytes
  front_length : length front ≡ place + length xs
  front_length = rw (length-append, length-take-le place out)

  split : with_bytes out place xs ≡ front ++ drop (place + length xs) out
  unfolding with_bytes
  split = sym (append_assoc (take place out) xs (drop (place + length xs) out))

  length-with : place + length xs ≤ length out → length (with_bytes out place xs) ≡ length out
  length-with room = ap length split ∙ rw (length-append, length-drop, front_length) (omega arith)

  -- more bytes behind the first ones
  with-more : (rest : List ℕ) → with_bytes out place (xs ++ rest) ≡ with_bytes (with_bytes out place xs) (place + length xs) rest
  unfolding with_bytes
  with-more rest = sym (rw (taken, dropped) (append_assoc (take place out) xs (rest ++ drop (place + length (xs ++ rest)) out) ∙ rw append_assoc))
    where
      taken : take (place + length xs) (with_bytes out place xs) ≡ front
      taken = rw split (take_at front (drop (place + length xs) out) (place + length xs) front_length)

      behind : drop (place + length xs) (with_bytes out place xs) ≡ drop (place + length xs) out
      behind = rw split (drop_at front (drop (place + length xs) out) (place + length xs) front_length)

      dropped : drop (place + length xs + length rest) (with_bytes out place xs) ≡ drop (place + length (xs ++ rest)) out
      dropped =
          let far : place + length xs + length rest ≡ place + length (xs ++ rest) = rw length-append (omega arith) in
          sym (drop-drop (length rest) (place + length xs) (with_bytes out place xs)) ∙ ap (drop (length rest)) behind
          ∙ drop-drop (length rest) (place + length xs) out ∙ ap (λ (n : ℕ). drop n out) far

-- no bytes change nothing
with_none : (out : List ℕ) (place : ℕ) → with_bytes out place [] ≡ out
unfolding with_bytes
with_none out place = rw add-zero (take-append-drop place out)

-- of all bytes that are to be put from a first place on, the rest is still to be put at this place
pub record Writing (out₀ : List ℕ) (place₀ : ℕ) (all out : List ℕ) (place : ℕ) (rest : List ℕ) : Type 0 where
  pub whole : with_bytes out₀ place₀ all ≡ with_bytes out place rest
  pub end : place₀ + length all ≡ place + length rest
  pub room : place + length rest ≤ length out

pub begin : {out : List ℕ} {place : ℕ} {all : List ℕ} → Room out place all → Writing out place all out place all
unfolding Room
begin room = record { whole = refl; end = refl; room = room }

module _ {out₀ : List ℕ} {place₀ : ℕ} {all out : List ℕ} {place : ℕ} where
  -- there is room for the bytes that come next
  pub room_next : (xs rest : List ℕ) → Writing out₀ place₀ all out place (xs ++ rest) → Room out place xs
  unfolding Room
  room_next xs rest w = let h : place + (length xs + length rest) ≤ length out = rw length-append at w.room in omega arith

  pub room-last : (xs : List ℕ) → Writing out₀ place₀ all out place xs → Room out place xs
  unfolding Room
  room-last xs w = w.room

  -- the next bytes are put
  pub step : (xs rest : List ℕ) {out' : List ℕ} {r : ℕ} → Writing out₀ place₀ all out place (xs ++ rest) → Put out place xs out' r → Writing out₀ place₀ all out' r rest
  step xs rest w p =
      let h : place + (length xs + length rest) ≤ length out = rw length-append at w.room in
      let e : place₀ + length all ≡ place + (length xs + length rest) = rw length-append at w.end in
      let inside : place ≤ length out = omega arith in
      record {
        whole = w.whole ∙ rw (p.after, p.next) (with-more out place xs inside rest);
        end = rw p.next (omega arith);
        room = rw (p.next, p.after, length-with out place xs inside (omega arith)) (omega arith);
      }

  -- nothing is left
  pub finish : Writing out₀ place₀ all out place [] → Put out₀ place₀ all out place
  finish w = record { after = sym (w.whole ∙ with_none out place); next = sym (w.end ∙ add-zero place) }

  -- the last bytes are put
  pub last : (xs : List ℕ) {out' : List ℕ} {r : ℕ} → Writing out₀ place₀ all out place xs → Put out place xs out' r → Put out₀ place₀ all out' r
  last xs w p = record {
    after = p.after ∙ sym w.whole;
    next = p.next ∙ sym w.end;
  }

-- one byte stored
pub put_one : (out : List ℕ) (place b : ℕ) → place < length out → Put out place (b ∷ []) (set out place b) (place + 1)
unfolding with_bytes
put_one out place b h = record { after = rw add-one (set_split out place b h); next = refl }

-- the bytes at the front are the answer
pub put_written : {check : Check} (out bytes out' : List ℕ) (r : ℕ) → check ≡ accepted → Put out 0 bytes out' r → out' ≡ written check bytes out
unfolding with_bytes written
put_written out bytes out' r e p = p.after ∙ rw (e, zero-add)

-- while bytes are copied one by one: those from i on are still to be put
pub record Copying (out₀ : List ℕ) (place : ℕ) (bytes out : List ℕ) (i : ℕ) : Type 0 where
  pub inside : i ≤ length bytes
  pub writing : Writing out₀ place bytes out (place + i) (drop i bytes)

pub copy_start : {out : List ℕ} {place : ℕ} {bytes : List ℕ} → Room out place bytes → Copying out place bytes out 0
copy_start {out} {place} {bytes} room = record { inside = omega arith; writing = rw add-zero (begin room) }

module _ {out₀ : List ℕ} {place : ℕ} {bytes out : List ℕ} {i : ℕ} (so : Copying out₀ place bytes out i) where
  pub copy-room : i < length bytes → place + i < length out
  copy-room h = let room : place + i + (length bytes - i) ≤ length out = rw length-drop at so.writing.room in omega arith

  pub copy_more : i < length bytes → Copying out₀ place bytes (set out (place + i) (get_or bytes i 0)) (i + 1)
  copy_more h =
      let b : ℕ = get_or bytes i 0 in
      let left : drop i bytes ≡ (b ∷ []) ++ drop (i + 1) bytes = rw add-one (drop-cons bytes i 0 h) in
      let now : Writing out₀ place bytes out (place + i) ((b ∷ []) ++ drop (i + 1) bytes) = rw left at so.writing in
      let next : place + i + 1 ≡ place + (i + 1) = omega arith in
      record {
        inside = omega arith;
        writing = rw next at (step (b ∷ []) (drop (i + 1) bytes) now (put_one out (place + i) b (copy-room h)));
      }

  pub copied : length bytes ≤ i → Put out₀ place bytes out (place + length bytes)
  copied h =
      let all : i ≡ length bytes = omega arith in
      rw (← all) (finish (rw (drop_of_length-le bytes h) at so.writing))

-- the bytes fill a part that was lent
pub put-part : (out : List ℕ) (place n : ℕ) (bytes ys : List ℕ) → n ≡ length bytes → ys ≡ bytes → Put out place bytes (put_mid place (place + n - place) out ys) (place + n)
unfolding with_bytes
put-part out place n bytes ys count same = record {
  after = rw (same, Post-is place (place + n) out (omega arith), count);
  next = ap (λ (k : ℕ). place + k) count;
}
