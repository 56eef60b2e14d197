-- The rows of a table, one after the other: how their room is counted and how they are put.
use mathlib.Core.Bool.{Bool, true, false}
use mathlib.Core.List.{List, [], ◌++◌}
use mathlib.Core.Path.{◌≡◌, sym, ap, subst, ◌∙◌}
use Prim.Native.Nat.{ℕ, suc, ◌+◌, ◌-◌, ◌≤◌, ◌<◌}
use native.Mathlib.Nat.{sub-zero}
use native.Mathlib.Numerals.{add-one}
use native.Mathlib.Omega.{arith}
use borrow.Author.Tests.{le-leb}
use lib.Dec.{leb}
use lib.ListN.{length, get_or, length-append}
use Rattle.printing.specs.Bytes.{row}
use Rattle.printing.specs.Answers.{envelope_at, rows}
use Rattle.printing.specs.Writing.{Room, Put}
use Rattle.printing.proofs.Laws.Sizes.{fits-behind, too_long}
use Rattle.printing.proofs.Laws.Writing.{Writing, begin, step, finish, room_next}

module _ (comparisons : Bool) (ts observed lower upper : List ℕ) where
  -- the row of threshold number k
  abbrev pub row_at : ℕ → List ℕ
  row_at k = row (get_or ts k 0) (get_or observed k 0) (envelope_at comparisons lower upper k)

  -- the rows from number k on
  abbrev pub rows_from : ℕ → List ℕ
  rows_from k = rows comparisons ts observed lower upper k (length ts - k)

  abbrev pub all_rows : List ℕ
  all_rows = rows comparisons ts observed lower upper 0 (length ts)

  all-rows : all_rows ≡ rows_from 0
  all-rows = rw sub-zero

  next_row : (k : ℕ) → k < length ts → rows_from k ≡ row_at k ++ rows_from (k + 1)
  unfolding rows
  next_row k h =
      let more : length ts - k ≡ suc (length ts - (k + 1)) = omega arith in
      rw (more, add-one)

  no_row : (k : ℕ) → length ts ≤ k → rows_from k ≡ []
  unfolding rows
  no_row k h = let none : length ts - k ≡ 0 = omega arith in rw none

  -- while the room is counted: the rows fit in the room where those from k on fit in what is left
  pub record Fitting (room left k : ℕ) : Type 0 where
    pub same : leb (length all_rows) room ≡ leb (length (rows_from k)) left

  module _ {room left k size : ℕ} (so : Fitting room left k) (h : k < length ts) (measured : size ≡ length (row_at k)) where
    left-length : length (rows_from k) ≡ size + length (rows_from (k + 1))
    left-length = ap length (next_row k h) ∙ rw (length-append, measured)

    pub no-fit : left < size → false ≡ leb (length all_rows) room
    no-fit short = rw (so.same, left-length) (too_long size _ left short)

    pub fit-more : size ≤ left → Fitting room (left - size) (k + 1)
    fit-more enough = record { same = so.same ∙ rw left-length (sym (fits-behind size _ left enough)) }

  pub all_fit : {room left k : ℕ} → Fitting room left k → length ts ≤ k → true ≡ leb (length all_rows) room
  all_fit {left = left} {k = k} so h = rw (so.same, no_row k h, le-leb 0 left (omega arith))

  -- while rows are put: those from k on are still to be put
  pub record PuttingRows (out₀ : List ℕ) (start : ℕ) (out : List ℕ) (place k : ℕ) : Type 0 where
    pub writing : Writing out₀ start all_rows out place (rows_from k)

  pub rows_start : {out : List ℕ} {start : ℕ} → Room out start all_rows → PuttingRows out start out start 0
  rows_start {out} {start} room = record { writing = subst (λ (l : List ℕ). Writing out start all_rows out start l) all-rows (begin room) }

  module _ {out₀ : List ℕ} {start : ℕ} {out : List ℕ} {place k : ℕ} (so : PuttingRows out₀ start out place k) where
    module _ (h : k < length ts) where
      now : Writing out₀ start all_rows out place (row_at k ++ rows_from (k + 1))
      now = rw (next_row k h) at so.writing

      pub row_room : Room out place (row_at k)
      row_room = room_next (row_at k) (rows_from (k + 1)) now

      pub row_put : {out' : List ℕ} {r : ℕ} → Put out place (row_at k) out' r → PuttingRows out₀ start out' r (k + 1)
      row_put p = record { writing = step (row_at k) (rows_from (k + 1)) now p }

    pub rows-put : length ts ≤ k → Put out₀ start all_rows out place
    rows-put h = finish (rw (no_row k h) at so.writing)
