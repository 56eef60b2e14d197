-- The table: the observed counts, and the least and the greatest count over the comparison sets, at every threshold.
use Rattle.std.specs.Prelude.{List, [], ◌∷◌, map, ◌≡◌, ℕ, zero, suc, length, Result}
use Rattle.model.specs.Answer.{answer, written}
use Rattle.model.specs.Checks.{room_check, sets_over_network_check, thresholds_check}
use Rattle.model.specs.Envelope.{Envelope, no_value, between, observed, envelope}
use Rattle.model.specs.Events.{events, greatest_set_of}
use Rattle.model.specs.Network.{Network}
use Rattle.model.specs.Refusal.{or_else, Check}
use Rattle.model.specs.declared.refusal.Refusal.{Refusal}
use Rattle.table.specs.declared.answers.Table.{Table}
use Rattle.table.specs.declared.answers.Table.TheVariants.{Observed, Compared}

-- one end of each envelope that has a value
unfoldable pub ends : (ℕ → ℕ → ℕ) → List Envelope → List ℕ
ends pick [] = []
ends pick (no_value ∷ more) = ends pick more
ends pick (between lower upper ∷ more) = pick lower upper ∷ ends pick more

unfoldable pub leasts : List Envelope → List ℕ
leasts envelopes = ends (λ lower upper. lower) envelopes

unfoldable pub greatests : List Envelope → List ℕ
greatests envelopes = ends (λ lower upper. upper) envelopes

-- how many thresholds have a least and a greatest: all of them, or none where there are no comparison sets
unfoldable pub spanned : ℕ → ℕ → ℕ
spanned zero width = 0
spanned (suc greatest) width = width

-- 2 for the lists of least and greatest, at so many thresholds
unfoldable pub spans_check : List ℕ → ℕ → List ℕ → List ℕ → Check
spans_check sets width second third =
    or_else (room_check (spanned (greatest_set_of sets) width) second) (room_check (spanned (greatest_set_of sets) width) third)

-- 2 (each answer list has room for what it is to hold; every 2 is at place 0), 6, 7, 9, 12 to 16; then 18 and 19
unfoldable pub table_check : Network → List ℕ → List ℕ → List ℕ → List ℕ → List ℕ → List ℕ → List ℕ → Check
table_check net sets es xs ts first second third =
    or_else (room_check (length ts) first)
    (or_else (spans_check sets (length ts) second third) (or_else (sets_over_network_check net sets es xs) (thresholds_check ts)))

-- whether there are comparison sets, given how many there are
unfoldable pub columns_of : ℕ → Table
columns_of zero = Observed
columns_of (suc n) = Compared

-- the same, or a refusal
unfoldable pub table_answer : Check → ℕ → Result Table Refusal
table_answer check comparisons = answer check (columns_of comparisons)

-- the promise of the table: its answer, and the three answer lists before and after. Without comparison sets no envelope has a
-- value, and the last two are as they were.
pub record TableAnswered (net : Network) (sets es xs ts first second third : List ℕ) (r : Result Table Refusal) (first' second' third' : List ℕ) : Type 0 where
  pub told : r ≡ table_answer (table_check net sets es xs ts first second third) (greatest_set_of sets)
  pub observed_after : first' ≡ written (table_check net sets es xs ts first second third) (map (observed net sets (events es xs)) ts) first
  pub lower_after : second' ≡ written (table_check net sets es xs ts first second third) (leasts (map (envelope net sets (events es xs)) ts)) second
  pub upper_after : third' ≡ written (table_check net sets es xs ts first second third) (greatests (map (envelope net sets (events es xs)) ts)) third
