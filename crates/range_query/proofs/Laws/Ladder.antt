-- The ladder of so many thresholds.
use mathlib.Core.List.{List}
use mathlib.Core.Path.{◌≡◌, ap, ◌∙◌}
use Prim.Native.Nat.{ℕ, ◌+◌, ◌-◌, ◌≤◌, ◌<◌, min}
use native.Mathlib.Decide.{ℕ_discrete}
use native.Mathlib.Omega.{arith}
use lib.ListN.{length, get_or, set, length-set}
use lib.Seq.{get_or-set_same, get_or-set_other}
use Rattle.model.specs.Limits.{max_thresholds}
use Rattle.edge_pair.specs.Offsets.{Ordered}
use Rattle.range_query.specs.Ladder.{shift_at, kind_at, first_cell, ladder_length, Level, LadderOf}
use Rattle.range_query.specs.Spreading.{SpreadSteps, StepsKept, CellsFilled}
use Rattle.range_query.proofs.Laws.Filling.{kept-none, kept_set, level-kept, celled-kept}
use Rattle.range_query.proofs.Laws.Placing.{placed-kept}

-- no step yet, and one more
pub spread_none : (ts ladder : List ℕ) → length ladder ≡ ladder_length → SpreadSteps ts 0 ladder
spread_none ts ladder e = record { long = e; at = λ k h. absurd (omega arith) }

pub spread-more : {ts ladder : List ℕ} (n v : ℕ) → SpreadSteps ts n ladder → n < max_thresholds → v ≡ get_or ts (min n (length ts - 1)) 0 → SpreadSteps ts (n + 1) (set ladder n v)
spread-more {ts} {ladder} n v w h e =
    record { long = length-set ladder n v ∙ w.long; at = λ k l. go k l (ℕ_discrete k n) }
  where
    go : (k : ℕ) → k < n + 1 → Dec (k ≡ n) → get_or (set ladder n v) k 0 ≡ get_or ts (min k (length ts - 1)) 0
    go k l (yes p) = rw p (get_or-set_same ladder n v 0 (omega (arith, w.long)) ∙ e)
    go k l (no p) = get_or-set_other ladder n k v 0 p ∙ w.at k (omega arith)

-- something else is put behind the steps
pub spread-beside : {ts ladder : List ℕ} (i v : ℕ) → max_thresholds ≤ i → SpreadSteps ts max_thresholds ladder → SpreadSteps ts max_thresholds (set ladder i v)
spread-beside {ts} {ladder} i v h w =
    record { long = length-set ladder i v ∙ w.long; at = λ k l. get_or-set_other ladder i k v 0 (λ e. omega arith) ∙ w.at k l }

-- the steps, the shift, the cells, and what these are put between them
module _ {ts first cells : List ℕ} (shift r : ℕ) (s : SpreadSteps ts max_thresholds first) (w : CellsFilled (length ts - 1) (set first shift_at shift) r cells) where
  pub cells-long : length cells ≡ ladder_length
  cells-long = w.kept.long ∙ length-set first shift_at shift ∙ s.long

  pub spread-long : length (set cells kind_at r) ≡ ladder_length
  spread-long = length-set cells kind_at r ∙ cells-long

  kept : StepsKept (set first shift_at shift) (set cells kind_at r)
  kept = kept_set kind_at r (omega arith) w.kept

  step : (k : ℕ) → k < max_thresholds → get_or (set first shift_at shift) k 0 ≡ get_or ts (min k (length ts - 1)) 0
  step k h = get_or-set_other first shift_at k shift 0 (λ e. omega arith) ∙ s.at k h

  pub all-spread : 1 ≤ length ts → length ts ≤ max_thresholds → ((k : ℕ) → get_or ts k 0 < 4294967296) → Ordered ts → LadderOf ts (set cells kind_at r)
  all-spread some few small rising =
      record {
        long = spread-long;
        few = few;
        at = λ k h. kept.at k (omega arith) ∙ step k (omega arith) ∙ ap (λ (i : ℕ). get_or ts i 0) {x = min k (length ts - 1)} {y = k} (omega arith);
        small = λ k h. small k;
        level = level-kept kept level;
        celled = λ e. celled-kept (omega arith) told same (w.celled (λ is. e (kind-is ∙ is)) level);
        placed = λ e. placed-kept told same (w.placed (omega (arith, kind-is, e)) level);
      }
    where
      level : Level (set first shift_at shift)
      level =
          record { level = λ j k h l. rw (step j (omega arith), step k l) (rising.in_order (min j (length ts - 1)) (min k (length ts - 1)) (omega arith) (omega arith)) }

      told : StepsKept cells (set cells kind_at r)
      told = kept_set kind_at r (omega arith) (kept-none cells)

      same : (j : ℕ) → get_or (set cells kind_at r) (first_cell + j) 0 ≡ get_or cells (first_cell + j) 0
      same j = get_or-set_other cells kind_at (first_cell + j) r 0 (λ e. omega arith)

      kind-is : get_or (set cells kind_at r) kind_at 0 ≡ r
      kind-is = get_or-set_same cells kind_at r 0 (omega (arith, cells-long))
