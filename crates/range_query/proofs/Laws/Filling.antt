-- The cells are filled one after the other: each names the one step that need be looked at.
use Rattle.std.specs.Prelude.{Option, IfSome}
use Rattle.std.proofs.lemmas.Option.{IfSome_then}
use mathlib.Core.List.{List}
use mathlib.Core.Path.{◌≡◌, refl, sym, ap, ◌∙◌}
use Prim.Native.Nat.{ℕ, ◌+◌, ◌*◌, ◌^◌, ◌≤◌, ◌<◌}
use native.Mathlib.Decide.{dec_lt}
use native.Mathlib.Nat.{suc-mul}
use native.Mathlib.Numerals.{add-one}
use native.Mathlib.Omega.{arith}
use lib.ListN.{length, get_or, set, length-set}
use lib.Seq.{get_or-set_same, get_or-set_other}
use Rattle.model.specs.Limits.{max_thresholds}
use Rattle.range_query.specs.Ladder.{last_step, shift_at, kind_at, first_cell, cell_count, last_cell, ladder_length, exact, shift_of, cell_of, named_by, Bracket, Level, Celled}
use Rattle.range_query.specs.Spreading.{Skipped, Names, StepsKept, CellsFilled}
use Rattle.range_query.proofs.Laws.Cells.{cell-to, in_cell}

-- lists that agree on the steps and the shift
pub kept-none : (old : List ℕ) → StepsKept old old
kept-none old = record { long = refl; at = λ k h. refl }

pub kept_set : {old new : List ℕ} (i v : ℕ) → kind_at ≤ i → StepsKept old new → StepsKept old (set new i v)
kept_set {old} {new} i v h w =
    record { long = length-set new i v ∙ w.long; at = λ k l. get_or-set_other new i k v 0 (λ e. omega arith) ∙ w.at k l }

pub level-kept : {old new : List ℕ} → StepsKept old new → Level old → Level new
level-kept w up = record { level = λ j k h l. rw (w.at j (omega arith), w.at k (omega arith)) (up.level j k h l) }

pub bracket-kept : {last : ℕ} {old new : List ℕ} {d pos n : ℕ} → last ≤ last_step → StepsKept old new → Bracket last old d pos n → Bracket last new d pos n
bracket-kept few kept w =
    record {
      fits = w.fits;
      passed = λ k h. rw (kept.at k (omega (arith, w.fits))) (w.passed k h);
      ahead = λ k h l. rw (kept.at k (omega arith)) (w.ahead k h l);
    }

-- the same cells behind the same steps
pub celled-kept : {last : ℕ} {old new : List ℕ} → last ≤ last_step → StepsKept old new → ((k : ℕ) → get_or new (first_cell + k) 0 ≡ get_or old (first_cell + k) 0) → Celled last old → Celled last new
unfolding named_by
celled-kept {last} {old} few kept same w =
    record {
      names = λ d. rw (kept.at shift_at (omega arith), same (cell_of (shift_of old) d)) (λ named. bracket-kept few kept (w.names d named));
    }

-- the first n cells name the one step that need be looked at, or none, if the steps do not fall; steps and shift are kept
pub record CellsTo (last : ℕ) (old : List ℕ) (n : ℕ) (new : List ℕ) : Type 0 where
  pub kept : StepsKept old new
  pub names : Level old → (d : ℕ) → cell_of (shift_of old) d < n → get_or new (first_cell + cell_of (shift_of old) d) 0 < max_thresholds → Bracket last old d (get_or new (first_cell + cell_of (shift_of old) d) 0) 1

-- no cell yet
cells-none : (last : ℕ) (old : List ℕ) → CellsTo last old 0 old
cells-none last old = record { kept = kept-none old; names = λ up d h. absurd (omega arith) }

-- one cell more
cells-more : {last : ℕ} {old new : List ℕ} (n c : ℕ) → CellsTo last old n new → first_cell + n < length old → (Level old → (d : ℕ) → cell_of (shift_of old) d ≡ n → c < max_thresholds → Bracket last old d c 1) → CellsTo last old (n + 1) (set new (first_cell + n) c)
cells-more {last} {old} {new} n c w in_list here =
    record {
      kept = kept_set (first_cell + n) c (omega arith) w.kept;
      names = λ up d h. go up d (dec_lt (cell_of (shift_of old) d) n) h;
    }
  where
    same : get_or (set new (first_cell + n) c) (first_cell + n) 0 ≡ c
    same = get_or-set_same new (first_cell + n) c 0 (omega (arith, w.kept.long))

    go : Level old → (d : ℕ) → Dec (cell_of (shift_of old) d < n) → cell_of (shift_of old) d < n + 1 → get_or (set new (first_cell + n) c) (first_cell + cell_of (shift_of old) d) 0 < max_thresholds → Bracket last old d (get_or (set new (first_cell + n) c) (first_cell + cell_of (shift_of old) d) 0) 1
    go up d (yes p) h =
        rw (get_or-set_other new (first_cell + n) (first_cell + cell_of (shift_of old) d) c 0 (λ e. omega arith)) (w.names up d p)
    go up d (no p) h =
        let e : cell_of (shift_of old) d ≡ n = omega arith in
        rw (e, same) (here up d e)

-- the first k cells are filled, and the steps before number c are below the start of the next
pub record Filling (last : ℕ) (old : List ℕ) (c start k : ℕ) (new : List ℕ) : Type 0 where
  pub begins : start ≡ k * 2 ^ shift_of old
  pub in-steps : c ≤ last
  pub passed : (j : ℕ) → j < c → get_or old j 0 < start
  pub cells : CellsTo last old k new

pub filling-none : (last : ℕ) (old : List ℕ) → Filling last old 0 0 0 old
filling-none last old =
    record { begins = omega arith; in-steps = omega arith; passed = λ j h. absurd (omega arith); cells = cells-none last old }

module _ {last : ℕ} {old : List ℕ} (long : length old ≡ ladder_length) (few : last ≤ last_step) where
  -- one cell more: it has no end if it is the last
  pub filling-more : {new : List ℕ} {c c' start k next step : ℕ} {end : Option ℕ} → Filling last old c start k new → k < cell_count → Skipped new start c last c' → next ≡ start + 2 ^ shift_of old → IfSome end (λ n. (n ≡ next) × (k < last_cell)) → Names new last c' end step → Filling last old c' next (k + 1) (set new (first_cell + k) step)
  filling-more {new} {c} {c'} {start} {k} {next} {step} {end} w h skipped e closed told =
      record {
        begins = e ∙ (rw (add-one k) (ap (λ x. x + 2 ^ shift_of old) w.begins ∙ sym (suc-mul k (2 ^ shift_of old))));
        in-steps = skipped.in_list;
        passed = λ j l. omega (arith, below j l (dec_lt j c));
        cells = cells-more k step w.cells (omega arith) here;
      }
    where
      below : (j : ℕ) → j < c' → Dec (j < c) → get_or old j 0 < start
      below j l (yes p) = w.passed j p
      below j l (no p) =
          rw (← w.cells.kept.at j (omega (arith, skipped.in_list))) (skipped.passed j (omega arith) l)

      here : Level old → (d : ℕ) → cell_of (shift_of old) d ≡ k → step < max_thresholds → Bracket last old d step 1
      here up d f named =
          let inside = in_cell (shift_of old) f in
          let a = told.lone named (level-kept w.cells.kept up) in
          rw (told.is named)
          (record {
            fits = omega (arith, skipped.in_list);
            passed = λ j b. omega (arith, below j b (dec_lt j c), inside.0, w.begins);
            ahead = λ j b m. rw (← w.cells.kept.at j (omega arith)) (a.ahead d (IfSome_then end closed (λ n f. omega (arith, inside.1 f.1, e, w.begins, f.0))) j (omega arith) m);
          })

  -- all cells
  pub filling-done : {new : List ℕ} {c start k r : ℕ} → Filling last old c start k new → cell_count ≤ k → (r ≡ exact → ⊥) → CellsFilled last old r new
  unfolding named_by
  filling-done {new} w all plain =
      record { kept = w.cells.kept; celled = λ e up. record { names = λ d. named up d }; placed = λ e. absurd (plain e) }
    where
      named : Level old → (d : ℕ) → named_by new d < max_thresholds → Bracket last new d (named_by new d) 1
      named up d =
          rw (w.cells.kept.at shift_at (omega arith))
          (λ in-steps. bracket-kept few w.cells.kept (w.cells.names up d (omega (arith, cell-to (shift_of old) d)) in-steps))
