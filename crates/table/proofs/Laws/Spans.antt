-- Least and greatest of one column, taken in from the last row on; then of every column, stored place by place.
use mathlib.Core.List.{List, ◌∷◌, ◌++◌, map}
use mathlib.Core.Path.{◌≡◌, refl, ap, ◌∙◌}
use Prim.Native.Nat.{ℕ, suc, ◌+◌, ◌-◌, ◌*◌, ◌≤◌, ◌<◌}
use native.Mathlib.Nat.{mul-le-mul_right}
use native.Mathlib.Numerals.{add-one, unary_clauses}
use native.Mathlib.Omega.{arith}
use lib.ListN.{length, get_or, set, take, length-set}
use Rattle.layout.proofs.Laws.Filling.{one_more, all-filled}
use Rattle.model.specs.Counting.{numbers_from}
use Rattle.model.specs.Envelope.{Envelope, between, widen, envelope_of}
use Rattle.table.specs.Columns.{ColumnThere, column_from, columns}
use Rattle.table.specs.Table.{ends}

-- a column of fewer rows
pub fewer-rows : {rows : List ℕ} {width greatest k : ℕ} (s : ℕ) → ColumnThere rows width greatest k → 1 ≤ s → s ≤ greatest → ColumnThere rows width s k
fewer-rows {width = width} {greatest = greatest} s c from to =
    let rows : suc s * width ≤ suc greatest * width = mul-le-mul_right width (omega arith) in
    record { rows_there = record { there = omega (arith, c.rows_there.there) }; some = from; inside = c.inside }

module _ (rows : List ℕ) (width k : ℕ) where
  -- the last row alone
  pub column-last : (s n v : ℕ) → n ≡ 1 → v ≡ get_or rows (s * width + k) 0 → between v v ≡ column_from rows width k s n
  unfolding column_from envelope_of numbers_from widen
  column-last s n v e f = rw (e, f)

  -- one row more in front
  pub column-more : (s next n m v : ℕ) (old new : Envelope) → suc s ≡ next → m ≡ suc n → v ≡ get_or rows (s * width + k) 0 → old ≡ column_from rows width k next n → new ≡ widen v old → new ≡ column_from rows width k s m
  unfolding column_from envelope_of numbers_from
  column-more s next n m v old new e f g h i = i ∙ rw (h, ← e, f, g)

-- n columns from place k on
unfoldable pub columns_from : List ℕ → ℕ → ℕ → ℕ → ℕ → List Envelope
columns_from rows width greatest k n = map (λ k. column_from rows width k 1 greatest) (numbers_from k n)

-- the places before k hold an end of each envelope
pub record Stored (pick : ℕ → ℕ → ℕ) (rows : List ℕ) (width greatest : ℕ) (out : List ℕ) (k : ℕ) : Type 0 where
  pub within : k ≤ width
  pub long : length out ≡ width
  pub is : ends pick (columns rows width greatest) ≡ take k out ++ ends pick (columns_from rows width greatest k (width - k))

module _ (pick : ℕ → ℕ → ℕ) (rows : List ℕ) (width greatest : ℕ) where
  pub stored-none : (out : List ℕ) → length out ≡ width → Stored pick rows width greatest out 0
  unfolding columns columns_from
  stored-none out e = record { within = omega arith; long = e; is = simp unary_clauses }

  -- the next column is the first of those to come
  next-column : (k n more lower upper : ℕ) → n ≡ suc more → between lower upper ≡ column_from rows width k 1 greatest → ends pick (columns_from rows width greatest k n) ≡ pick lower upper ∷ ends pick (columns_from rows width greatest (k + 1) more)
  unfolding columns_from numbers_from ends
  next-column k n more lower upper e f = rw (e, ← f, add-one) refl

  pub stored_more : {out : List ℕ} {k : ℕ} (lower upper : ℕ) → Stored pick rows width greatest out k → k < width → between lower upper ≡ column_from rows width k 1 greatest → Stored pick rows width greatest (set out k (pick lower upper)) (k + 1)
  stored_more {out} {k} lower upper s h e =
      record {
        within = omega arith;
        long = simp length-set s.long;
        is =
            one_more _ out _ k (pick lower upper) (omega (arith, s.long))
            (s.is ∙ ap (λ (l : List ℕ). take k out ++ l)
            (next-column k (width - k) (width - (k + 1)) lower upper (omega arith) e));
      }

  pub stored-all : {out : List ℕ} {k : ℕ} → Stored pick rows width greatest out k → width ≤ k → out ≡ ends pick (columns rows width greatest)
  unfolding columns_from numbers_from ends
  stored-all {out} {k} s h =
      let none : width - k ≡ 0 = omega arith in
      all-filled _ out _ k (omega (arith, s.long)) (ap (λ (n : ℕ). ends pick (columns_from rows width greatest k n)) none) s.is
