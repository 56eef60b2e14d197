-- The cells of single metres are filled one after the other: each holds the bucket of its metres.
use mathlib.Core.List.{List}
use mathlib.Core.Path.{◌≡◌, refl}
use Prim.Native.Nat.{ℕ, ◌+◌, ◌≤◌, ◌<◌}
use native.Mathlib.Decide.{dec_lt}
use native.Mathlib.Omega.{arith}
use lib.ListN.{length, get_or, set}
use lib.Seq.{get_or-set_same, get_or-set_other}
use Rattle.model.specs.Limits.{max_thresholds}
use Rattle.range_query.specs.Ladder.{last_step, first_cell, cell_count, ladder_length, exact, greatest_of, last_cell, Bracket, Level, Placed}
use Rattle.range_query.specs.Spreading.{Skipped, StepsKept, CellsFilled, PlacesFilled}
use Rattle.range_query.proofs.Laws.Filling.{kept-none, kept_set, bracket-kept}

-- the first k cells hold the buckets of their metres, and the steps before number c are below k
pub record Placing (old : List ℕ) (c k : ℕ) (new : List ℕ) : Type 0 where
  pub kept : StepsKept old new
  pub in-steps : c ≤ max_thresholds
  pub passed : (j : ℕ) → j < c → get_or old j 0 < k
  pub cells : Level old → (d : ℕ) → d < k → Bracket last_step old d (get_or new (first_cell + d) 0) 0

pub placing-none : (old : List ℕ) → Placing old 0 0 old
placing-none old =
    record { kept = kept-none old; in-steps = omega arith; passed = λ j h. absurd (omega arith); cells = λ up d h. absurd (omega arith) }

pub placing-more : {old new : List ℕ} {c c' k : ℕ} → Placing old c k new → length old ≡ ladder_length → k < cell_count → Skipped new k c max_thresholds c' → Placing old c' (k + 1) (set new (first_cell + k) c')
placing-more {old} {new} {c} {c'} {k} w long h skipped =
    record {
      kept = kept_set (first_cell + k) c' (omega arith) w.kept;
      in-steps = skipped.in_list;
      passed = λ j l. omega (arith, below j l (dec_lt j c));
      cells = λ up d l. go up d l (dec_lt d k);
    }
  where
    below : (j : ℕ) → j < c' → Dec (j < c) → get_or old j 0 < k
    below j l (yes p) = w.passed j p
    below j l (no p) = rw (← w.kept.at j (omega (arith, skipped.in_list))) (skipped.passed j (omega arith) l)

    reached : (j : ℕ) → c' ≤ j → j ≤ last_step → k ≤ get_or new c' 0
    reached j b m = skipped.stops (omega arith)

    here : Level old → Bracket last_step old k c' 0
    here up =
        record {
          fits = omega (arith, skipped.in_list);
          passed = λ j l. below j l (dec_lt j c);
          ahead = λ j b m. omega (arith, reached j (omega arith) m, w.kept.at c' (omega arith), up.level c' j (omega arith) (omega arith));
        }

    go : Level old → (d : ℕ) → d < k + 1 → Dec (d < k) → Bracket last_step old d (get_or (set new (first_cell + k) c') (first_cell + d) 0) 0
    go up d l (yes p) = rw (get_or-set_other new (first_cell + k) (first_cell + d) c' 0 (λ e. omega arith)) (w.cells up d p)
    go up d l (no p) =
        let e : d ≡ k = omega arith in
        rw (e, get_or-set_same new (first_cell + k) c' 0 (omega (arith, w.kept.long))) (here up)

pub placing-done : {old new : List ℕ} {c k : ℕ} → Placing old c k new → cell_count ≤ k → PlacesFilled old new
placing-done w all = record { kept = w.kept; places = λ up d l. w.cells up d (omega arith) }

-- all below the last cell
pub places-filled : {last : ℕ} {old new : List ℕ} → PlacesFilled old new → greatest_of old < last_cell → CellsFilled last old exact new
places-filled w few =
    record {
      kept = w.kept;
      celled = λ e. absurd (e refl);
      placed = λ e up. record { beyond = rw (w.kept.at last_step (omega arith)) few; places = λ d l. bracket-kept (omega arith) w.kept (w.places up d l) };
    }

-- the same cells behind the same steps
pub placed-kept : {old new : List ℕ} → StepsKept old new → ((k : ℕ) → get_or new (first_cell + k) 0 ≡ get_or old (first_cell + k) 0) → Placed old → Placed new
placed-kept kept same w =
    record {
      beyond = rw (kept.at last_step (omega arith)) w.beyond;
      places = λ d l. rw (same d) (bracket-kept (omega arith) kept (w.places d l));
    }
