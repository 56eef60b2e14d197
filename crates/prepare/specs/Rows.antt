-- Rows of an answer list, one after the other.
use Rattle.std.specs.Prelude.{List, [], ◌++◌, ◌≡◌, ℕ, zero, suc, ◌*◌, drop}

-- n rows from number s on
unfoldable pub rows_from : (ℕ → List ℕ) → ℕ → ℕ → List ℕ
rows_from row s zero = []
rows_from row s (suc n) = row s ++ rows_from row (suc s) n

-- the first s rows, of so many entries each, are written, and what stands from place start on is as it was
pub record RowsWritten (row : ℕ → List ℕ) (wide : ℕ) (old : List ℕ) (s start : ℕ) (answers : List ℕ) : Type 0 where
  pub place : start ≡ s * wide
  pub so_far : answers ≡ rows_from row 0 s ++ drop start old
