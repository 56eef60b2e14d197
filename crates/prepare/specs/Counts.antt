-- The counts of all sets at all thresholds, as every method hands them out: set by set, and under each set threshold by threshold.
use Rattle.model.specs.declared.refusal.Fault.TheVariants.{ListsDiffer}
use Rattle.std.specs.Prelude.{List, [], ◌++◌, map, ◌≡◌, ℕ, zero, suc, ◌*◌, leb, length}
use Rattle.model.specs.Answer.{written}
use Rattle.model.specs.Checks.{network_lists, set_lists, network_values, set_numbers_check, event_values, equal_sets_check, thresholds_check}
use Rattle.model.specs.Envelope.{count_of_set}
use Rattle.model.specs.Events.{Event, events, set_count}
use Rattle.model.specs.Network.{Network}
use Rattle.model.specs.Refusal.{or_else, unless, Check, accepted}

-- the counts of one set at each threshold
unfoldable pub count_row_of : Network → List ℕ → List Event → List ℕ → ℕ → List ℕ
count_row_of net sets es ts s = map (λ t. count_of_set net sets es t s) ts

-- the rows of n sets from set s on
unfoldable pub count_rows_of : Network → List ℕ → List Event → List ℕ → ℕ → ℕ → List ℕ
count_rows_of net sets es ts s zero = []
count_rows_of net sets es ts s (suc n) = count_row_of net sets es ts s ++ count_rows_of net sets es ts (suc s) n

unfoldable pub count_table : Network → List ℕ → List Event → List ℕ → List ℕ
count_table net sets es ts = count_rows_of net sets es ts 0 (set_count sets)

-- 2 (the answer list has room for a count of every set at every threshold), 6, 7, 9, 12 to 16, 18, 19
unfoldable pub counts_check : Network → List ℕ → List ℕ → List ℕ → List ℕ → ℕ → Check
counts_check net sets es xs ts room =
    or_else (network_lists net)
    (or_else (set_lists sets es xs)
    (or_else (unless (leb (set_count sets * length ts) room) ListsDiffer 0)
    (or_else (network_values accepted net)
    (or_else (set_numbers_check sets) (or_else (event_values net es xs) (or_else (equal_sets_check sets) (thresholds_check ts)))))))

-- the promise of a counting method: its verdict, and its answer list before and after
pub record CountsAnswered (net : Network) (sets es xs ts old : List ℕ) (r : Check) (new : List ℕ) : Type 0 where
  pub verdict : r ≡ counts_check net sets es xs ts (length old)
  pub after : new ≡ written (counts_check net sets es xs ts (length old)) (count_table net sets (events es xs) ts) old
