-- The columns of the table of counts: the observed counts and the envelopes.
use mathlib.Core.List.{List, [], ◌∷◌, ◌++◌, map, append_assoc}
use mathlib.Core.Path.{◌≡◌, refl, ap, ap₂, ◌∙◌}
use Prim.Native.Nat.{ℕ, zero, suc, ◌+◌, ◌≤◌, ◌<◌}
use native.Mathlib.Omega.{arith}
use lib.ListN.{length, get_or, take}
use lib.Seq.{take_at}
use Rattle.model.specs.Counting.{numbers_from}
use Rattle.model.specs.Envelope.{envelope_of, count_of_set, observed, envelope}
use Rattle.model.specs.Events.{Event, greatest_set_of, set_count}
use Rattle.model.specs.Network.{Network}
use Rattle.prepare.specs.Counts.{count_row_of, count_rows_of, count_table}
use Rattle.prepare.proofs.Laws.CountRows.{count-row-length, count-entry}
use Rattle.table.specs.Columns.{column_from, columns}

-- two functions that agree on successive numbers
map_same : (f g : ℕ → ℕ) (s n : ℕ) → ((j : ℕ) → s ≤ j → j < s + n → f j ≡ g j) → map f (numbers_from s n) ≡ map g (numbers_from s n)
unfolding numbers_from
map_same f g s zero each = refl
map_same f g s (suc n) each =
    ap₂ (λ (x : ℕ) (l : List ℕ). x ∷ l) (each s (omega arith) (omega arith)) (map_same f g (suc s) n (λ j l h. each j (omega arith) (omega arith)))

-- a function of the places, and one of the elements there
map-places : {A : Type 0} (f g : ℕ → A) (l : List ℕ) (s : ℕ) → ((k : ℕ) → k < length l → f (s + k) ≡ g (get_or l k 0)) → map f (numbers_from s (length l)) ≡ map g l
unfolding numbers_from
map-places f g [] s each = refl
map-places {A} f g (x ∷ l) s each =
    ap₂ (λ (y : A) (r : List A). y ∷ r)
    (ap f {x = s} {y = s + 0} (omega arith) ∙ each 0 (omega arith))
    (map-places f g l (suc s) (λ k h. ap f {x = suc s + k} {y = s + suc k} (omega arith) ∙ each (suc k) (omega arith)))

module _ (net : Network) (sets : List ℕ) (es : List Event) (ts : List ℕ) where
  -- the first row is the observed one
  pub observed-row : (rest : List ℕ) → take (length ts) (count_table net sets es ts ++ rest) ≡ map (observed net sets es) ts
  unfolding count_table count_rows_of set_count observed count_row_of
  observed-row rest =
      rw (append_assoc (count_row_of net sets es ts 0) (count_rows_of net sets es ts 1 (greatest_set_of sets)) rest)
      (take_at (count_row_of net sets es ts 0) (count_rows_of net sets es ts 1 (greatest_set_of sets) ++ rest) (length ts) (count-row-length net sets es ts 0))

  -- a column over the other rows is the envelope
  column-is : (rest : List ℕ) (k : ℕ) → k < length ts → column_from (count_table net sets es ts ++ rest) (length ts) k 1 (greatest_set_of sets) ≡ envelope net sets es (get_or ts k 0)
  unfolding column_from envelope set_count
  column-is rest k h =
      ap envelope_of
      (map_same _ (count_of_set net sets es (get_or ts k 0)) 1 (greatest_set_of sets)
      (λ j l i. count-entry net sets es ts rest j k (omega arith) h))

  pub columns-are : (rest : List ℕ) → columns (count_table net sets es ts ++ rest) (length ts) (greatest_set_of sets) ≡ map (envelope net sets es) ts
  unfolding columns
  columns-are rest =
      map-places (λ k. column_from (count_table net sets es ts ++ rest) (length ts) k 1 (greatest_set_of sets)) (envelope net sets es) ts 0
      (λ k h. ap (λ (j : ℕ). column_from (count_table net sets es ts ++ rest) (length ts) j 1 (greatest_set_of sets)) {x = 0 + k} {y = k} (omega arith) ∙ column-is rest k h)
