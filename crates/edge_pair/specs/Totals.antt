-- Totals of 64 bits, to which the kernels add. An entry counts from its place on: the total at a place is the sum of the entries up to
-- it, and totals are alike if they differ by a multiple of 2 ^ 64.
use Rattle.std.specs.Prelude.{◌≡◌, ℕ, suc, ◌+◌, ◌*◌, ◌<◌, cond, List, length, nat_le, slice_index}
use Rattle.model.specs.Counting.{sum_below}

-- 2 ^ 64
abbrev pub wrap : ℕ
wrap = 18446744073709551616

-- the same in 64 bits
pub record Same64 (a b : ℕ) : Type 0 where
  pub up : ℕ
  pub down : ℕ
  pub alike : a + up * wrap ≡ b + down * wrap

unfoldable pub total_at : List ℕ → ℕ → ℕ
total_at totals k = sum_below (suc k) (λ j. slice_index totals j)

-- to the totals at the first n places their numbers have been added; of those behind nothing is said
pub record Added (n : ℕ) (f : ℕ → ℕ) (old new : List ℕ) : Type 0 where
  pub same_length : length new ≡ length old
  pub at : (k : ℕ) → k < n → k < length old → Same64 (total_at new k) (total_at old k + f k)

-- the totals from a place on are more by one number, and less by another
pub record Changed (place less more : ℕ) (old new : List ℕ) : Type 0 where
  pub same_length : length new ≡ length old
  pub at : (k : ℕ) → k < length old → Same64 (total_at new k + cond (nat_le place k) less 0) (total_at old k + cond (nat_le place k) more 0)
