-- An answer list filled row by row, and the table of counts as such rows.
use mathlib.Core.List.{List, ◌++◌, append_assoc, append-nil}
use mathlib.Core.Path.{◌≡◌, refl, sym, ap, ap₂, ◌∙◌}
use Prim.Native.Nat.{ℕ, zero, suc, ◌+◌, ◌*◌, ◌≤◌, ◌<◌}
use native.Mathlib.Nat.{suc-mul}
use native.Mathlib.Numerals.{add-one}
use native.Mathlib.Omega.{arith}
use borrow.Rule.Slice.PartMut.{put_mid}
use lib.ListN.{length, get_or, take, drop, length-append, length-map, get_or-append}
use lib.Seq.{take_at, drop_at, drop-drop, get_or-append-add}
use Rattle.model.proofs.Laws.Lists.{map_at}
use Rattle.model.specs.Envelope.{count_of_set}
use Rattle.model.specs.Events.{Event, set_count}
use Rattle.model.specs.Network.{Network}
use Rattle.prepare.specs.Rows.{rows_from, RowsWritten}
use Rattle.prepare.specs.Counts.{count_row_of, count_rows_of, count_table}

module _ (row : ℕ → List ℕ) (wide : ℕ) (row-length : (s : ℕ) → length (row s) ≡ wide) where
  -- the last row stands behind the others
  rows_last : (s n : ℕ) → rows_from row s (suc n) ≡ rows_from row s n ++ row (s + n)
  unfolding rows_from
  rows_last s zero = append-nil _ ∙ ap row (omega arith)
  rows_last s (suc n) =
      let next : suc s + n ≡ s + suc n = omega arith in
      ap (λ (l : List ℕ). row s ++ l) (rows_last (suc s) n ∙ ap (λ (k : ℕ). rows_from row (suc s) n ++ row k) next)
      ∙ sym (append_assoc (row s) (rows_from row (suc s) n) (row (s + suc n)))

  rows-length : (s n : ℕ) → length (rows_from row s n) ≡ n * wide
  unfolding rows_from
  rows-length s zero = omega arith
  rows-length s (suc n) =
      length-append (row s) (rows_from row (suc s) n) ∙ omega (arith, row-length s, rows-length (suc s) n, suc-mul n wide)

  pub rows-begin : (old : List ℕ) → RowsWritten row wide old 0 0 old
  unfolding rows_from
  rows-begin old = record { place = omega arith; so_far = refl }

  -- one row more, put back as a part of k places
  pub row_written : (old : List ℕ) (s start k : ℕ) (answers new : List ℕ) → k ≡ wide → RowsWritten row wide old s start answers → new ≡ row s → RowsWritten row wide old (s + 1) (start + wide) (put_mid start k answers new)
  row_written old s start k answers new h w e =
      let done : List ℕ = rows_from row 0 s in
      let long : length done ≡ start = rows-length 0 s ∙ sym w.place in
      let front : take start answers ≡ done = ap (take start) w.so_far ∙ take_at done (drop start old) start long in
      let behind : drop start answers ≡ drop start old = ap (drop start) w.so_far ∙ drop_at done (drop start old) start long in
      let next : s + 1 ≡ suc s = add-one s in
      record {
        place = rw next (omega (arith, w.place, suc-mul s wide));
        so_far =
            rw next
            (ap₂ (λ (a b : List ℕ). a ++ (new ++ drop k b)) front behind
            ∙ ap₂ (λ (a b : List ℕ). done ++ (a ++ b)) e (drop-drop k start old ∙ ap (λ (n : ℕ). drop (start + n) old) h)
            ∙ sym (append_assoc done (row s) (drop (start + wide) old))
            ∙ ap (λ (l : List ℕ). l ++ drop (start + wide) old) (sym (rows_last 0 s ∙ ap (λ (n : ℕ). done ++ row n) {x = 0 + s} {y = s} (omega arith))));
      }

  -- all rows
  pub rows_written : (old : List ℕ) (n start : ℕ) (answers : List ℕ) → RowsWritten row wide old n start answers → answers ≡ rows_from row 0 n ++ drop (length (rows_from row 0 n)) old
  rows_written old n start answers w =
      let long = rows-length 0 n in
      w.so_far ∙ ap (λ (k : ℕ). rows_from row 0 n ++ drop k old) {x = start} {y = length (rows_from row 0 n)} (omega (arith, w.place))

  -- entry k of row j, whatever stands behind the rows
  pub row-entry : (s n j k : ℕ) (rest : List ℕ) → j < n → k < wide → get_or (rows_from row s n ++ rest) (j * wide + k) 0 ≡ get_or (row (s + j)) k 0
  unfolding rows_from
  row-entry s zero j k rest h i = absurd (omega arith)
  row-entry s (suc n) zero k rest h i =
      let long = row-length s in
      let at : 0 * wide + k ≡ k = omega arith in
      rw (append_assoc (row s) (rows_from row (suc s) n) rest, at)
      (get_or-append (row s) (rows_from row (suc s) n ++ rest) 0 k (omega arith) ∙ ap (λ (m : ℕ). get_or (row m) k 0) {x = s} {y = s + 0} (omega arith))
  row-entry s (suc n) (suc j) k rest h i =
      let at : suc j * wide + k ≡ length (row s) + (j * wide + k) = omega (arith, row-length s, suc-mul j wide) in
      rw (append_assoc (row s) (rows_from row (suc s) n) rest, at)
      (get_or-append-add (row s) (rows_from row (suc s) n ++ rest) (j * wide + k) 0
      ∙ row-entry (suc s) n j k rest (omega arith) i
      ∙ ap (λ (m : ℕ). get_or (row m) k 0) {x = suc s + j} {y = s + suc j} (omega arith))

-- the table of counts is its rows
module _ (net : Network) (sets : List ℕ) (es : List Event) (ts : List ℕ) (row : ℕ → List ℕ) where
  same_rows : (s n : ℕ) → ((k : ℕ) → s ≤ k → k < s + n → row k ≡ count_row_of net sets es ts k) → rows_from row s n ≡ count_rows_of net sets es ts s n
  unfolding rows_from count_rows_of
  same_rows s zero each = refl
  same_rows s (suc n) each =
      ap₂ (λ (a b : List ℕ). a ++ b) (each s (omega arith) (omega arith)) (same_rows (suc s) n (λ k l h. each k (omega arith) (omega arith)))

  pub table-rows : ((s : ℕ) → s < set_count sets → row s ≡ count_row_of net sets es ts s) → rows_from row 0 (set_count sets) ≡ count_table net sets es ts
  unfolding count_table
  table-rows each = same_rows 0 (set_count sets) (λ k l h. each k (omega arith))

module _ (net : Network) (sets : List ℕ) (es : List Event) (ts : List ℕ) where
  pub count-row-length : (s : ℕ) → length (count_row_of net sets es ts s) ≡ length ts
  unfolding count_row_of
  count-row-length s = length-map ts _

  row_at : (s k : ℕ) → k < length ts → get_or (count_row_of net sets es ts s) k 0 ≡ count_of_set net sets es (get_or ts k 0) s
  unfolding count_row_of
  row_at s k h = map_at (λ t. count_of_set net sets es t s) ts k h

  -- the count of a set at a threshold, where it stands in the table
  pub count-entry : (rest : List ℕ) (j k : ℕ) → j < set_count sets → k < length ts → get_or (count_table net sets es ts ++ rest) (j * length ts + k) 0 ≡ count_of_set net sets es (get_or ts k 0) j
  count-entry rest j k h l =
      ap (λ (t : List ℕ). get_or (t ++ rest) (j * length ts + k) 0) (sym (table-rows net sets es ts (count_row_of net sets es ts) (λ s i. refl)))
      ∙ row-entry (count_row_of net sets es ts) (length ts) count-row-length 0 (set_count sets) j k rest h l
      ∙ ap (λ (m : ℕ). get_or (count_row_of net sets es ts m) k 0) {x = 0 + j} {y = j} (omega arith)
      ∙ row_at j k l
