-- The loop over the sets: what stands fixed while it runs, and the row that each turn writes.
use Rattle.model.specs.declared.refusal.Refusal.{Refusal}
use Rattle.std.specs.Prelude.{Err}
use Rattle.model.specs.Refusal.{Check, accepted}
use Rattle.std.proofs.Common.{◌≡◌, ℕ, suc, ◌+◌, ◌*◌, ◌<◌, ◌≤◌, List, length, get_or, sym, refl, ap, ◌∙◌, ⊎_elim, mul-le-mul_right, suc-mul, eq-or-lt_of_le, add-one, arith}
use borrow.Rule.Slice.PartMut.{put_mid}
use lib.ListN.{length-map}
use Rattle.model.proofs.Laws.Answer.{written_is, written-refused}
use Rattle.model.proofs.Laws.Checks.{ThresholdsAccepted, thresholds-rise}
use Rattle.model.proofs.Laws.Pieces.{part_length, part_at}
use Rattle.model.specs.Events.{events, greatest_set_of, set_count}
use Rattle.model.specs.Limits.{max_events, max_set}
use Rattle.model.specs.Network.{Network}
use Rattle.validate.proofs.SetSizes.{greatest-small}
use Rattle.edge_pair.specs.Offsets.{Ordered}
use Rattle.prepare.proofs.Laws.CountRows.{rows-begin, row_written, rows_written, table-rows}
use Rattle.prepare.proofs.Laws.Groups.{events-total}
use Rattle.prepare.proofs.Laws.InRuns.{run_count, set-runs-rise, bounds-rise, offsets_rise}
use Rattle.prepare.proofs.Laws.SetPairs.{Stored, all-ready, sum_fits, row_is}
use Rattle.prepare.proofs.Laws.Verdict.{CountsAccepted, counts-accepted}
use Rattle.prepare.specs.Counts.{CountsAnswered, count_table}
use Rattle.prepare.specs.Prepared.{Prepared, Ready}
use Rattle.prepare.specs.Rows.{rows_from, RowsWritten}
use Rattle.prepare.specs.RunPairs.{part_of, other_row}
use Rattle.range_query.specs.Ladder.{LadderOf}
use Rattle.counting.specs.Rows.{RowFits, SetsReady, set_row, RowsAfter}
use Rattle.counting.specs.Runs.{RunsStorable, RunsStored, AllRuns}

-- accepted thresholds are in order
pub thresholds-ordered : {ts : List ℕ} → ThresholdsAccepted ts → Ordered ts
thresholds-ordered {ts} up = record { in_order = λ i j h l. ⊎_elim (λ e. rw e (omega arith)) (λ less. omega (arith, thresholds-rise ts up i j less l)) (eq-or-lt_of_le {n = i} {m = j} h) }

-- a set's row has an entry for each threshold
set-row-length : (net : Network) (es xs bounds set_runs_of ts : List ℕ) (s : ℕ) → length (set_row net es xs bounds set_runs_of ts s) ≡ length ts
unfolding set_row other_row
set-row-length net es xs bounds set_runs_of ts s = length-map ts _

-- the first s rows of the answer are written
pub record SetsWritten (net : Network) (es xs bounds set_runs_of ts old : List ℕ) (s start : ℕ) (answers : List ℕ) : Type 0 where
  pub rows : RowsWritten (set_row net es xs bounds set_runs_of ts) (length ts) old s start answers

pub sets-begin : {net : Network} {es xs bounds set_runs_of ts : List ℕ} (old : List ℕ) → SetsWritten net es xs bounds set_runs_of ts old 0 0 old
sets-begin {net} {es} {xs} {bounds} {set_runs_of} {ts} old =
    record { rows = rows-begin (set_row net es xs bounds set_runs_of ts) (length ts) (set-row-length net es xs bounds set_runs_of ts) old }

-- the row of the next set fits behind the rows so far
pub row_fits : {net : Network} {es xs bounds set_runs_of ts old answers : List ℕ} {s start count : ℕ} → SetsWritten net es xs bounds set_runs_of ts old s start answers → s < count → count * length ts ≤ length old → start + length ts ≤ length old
row_fits {ts = ts} {s = s} {count = count} w h room =
    let rows : suc s * length ts ≤ count * length ts = mul-le-mul_right (length ts) h in
    omega (arith, suc-mul s (length ts), w.rows.place)

-- one set more, put back as a part of k places
pub set-written : {net : Network} {es xs bounds set_runs_of ts old answers : List ℕ} {s start : ℕ} (k r q : ℕ) (row : List ℕ) → SetsWritten net es xs bounds set_runs_of ts old s start answers → k ≡ length ts → r ≡ get_or set_runs_of s 0 → q ≡ get_or set_runs_of (s + 1) 0 → row ≡ other_row net es xs bounds ts r q → SetsWritten net es xs bounds set_runs_of ts old (s + 1) (start + length ts) (put_mid start k answers row)
unfolding set_row
set-written {net} {es} {xs} {bounds} {set_runs_of} {ts} {old} {answers} {s} {start} k r q row w wide first last e =
    record {
      rows =
          row_written (set_row net es xs bounds set_runs_of ts) (length ts) (set-row-length net es xs bounds set_runs_of ts) old s start k answers row wide w.rows (e ∙ rw (first, last, add-one s) refl);
    }

-- what a set's row asks
module _ {net : Network} {es xs bounds set_runs_of ts : List ℕ} {count runs : ℕ} (ready : SetsReady net es xs bounds set_runs_of ts count runs) {s r q : ℕ} (h : s < count) (first : r ≡ get_or set_runs_of s 0) (last : q ≡ get_or set_runs_of (s + 1) 0) where
  pub runs-rise : r ≤ q
  runs-rise = rw (first, last, add-one s) (ready.in_order s h)

  pub runs-in : q ≤ runs
  runs-in = rw (last, add-one s) (ready.to_runs s h)

  pub counts-fit : RowFits net es xs bounds ts r q
  counts-fit = rw (first, last, add-one s) (ready.fits s h)

-- everything is accepted and prepared
pub record Begun (net : Network) (sets es xs ts : List ℕ) (room : ℕ) (edges offsets bounds set_runs_of table : List ℕ) (count : ℕ) : Type 0 where
  pub accepted : CountsAccepted net sets es xs ts room
  pub lists : Prepared net sets es xs ts edges offsets bounds set_runs_of table
  pub count-is : count ≡ set_count sets
  pub few_sets : count ≤ suc max_set

-- what the verdict and the greatest set number tell
pub begun : {net : Network} {sets es xs ts : List ℕ} {room : ℕ} {r : Check} {edges offsets bounds set_runs_of table : List ℕ} {g : ℕ} → Ready net sets es xs ts room r edges offsets bounds set_runs_of table → r ≡ accepted → g ≡ greatest_set_of sets → Begun net sets es xs ts room edges offsets bounds set_runs_of table (g + 1)
unfolding set_count
begun {net} {sets} {es} {xs} {ts} {room} {g = g} ready told greatest =
    let ok = sym ready.verdict ∙ told in
    let all = counts-accepted net sets es xs ts room ok in
    let few = greatest-small sets max_set all.sets-are.numbers in
    record {
      accepted = all;
      lists = ready.prepared ok;
      count-is = add-one g ∙ ap suc greatest;
      few_sets = omega arith;
    }

module _ {net : Network} {sets es xs ts : List ℕ} {room : ℕ} {edges offsets bounds set_runs_of table : List ℕ} {count : ℕ} (b : Begun net sets es xs ts room edges offsets bounds set_runs_of table count) {runs : ℕ} (last : runs ≡ get_or set_runs_of count 0) where
  -- the runs are those of all sets
  runs-are : runs ≡ run_count b.accepted.sets-are b.lists
  runs-are = last ∙ ap (λ (n : ℕ). get_or set_runs_of n 0) b.count-is

  -- where they end
  all-events : get_or bounds runs 0 ≡ length es
  all-events = rw runs-are (b.lists.runs.set_begins (set_count sets) (omega arith) ∙ events-total sets es b.accepted.sets-are.sets_length)

  pub storable : (near_first near-second : List ℕ) → length offsets ≡ max_events → length bounds ≡ suc max_events → length near_first ≡ max_events → length near-second ≡ max_events → RunsStorable offsets bounds near_first near-second runs
  unfolding part_of
  storable near_first near-second offsets-long bounds-long first-long second-long =
      let few = b.accepted.sets-are.are-events.few in
      let end = all-events in
      let many : runs ≤ length es = rw runs-are b.lists.runs.few in
      record {
        in_bounds = omega arith;
        at = λ k l.
            let here : k < run_count b.accepted.sets-are b.lists = rw (← runs-are) l in
            let up = b.lists.runs.rising k here in
            let to : get_or bounds (suc k) 0 ≤ get_or bounds runs 0 = rw runs-are (bounds-rise b.accepted.sets-are b.lists (suc k) (run_count b.accepted.sets-are b.lists) here (omega arith)) in
            let long = part_length (get_or bounds k 0) (get_or bounds (suc k) 0) offsets (omega arith) in
            record {
              begins = omega arith;
              in_offsets = omega arith;
              in_first = omega arith;
              in_second = omega arith;
              few = omega arith;
              rising =
                  record {
                    in_order = λ i j m n.
                        rw (part_at (get_or bounds k 0) (get_or bounds (suc k) 0) i offsets (omega (arith, long)), part_at (get_or bounds k 0) (get_or bounds (suc k) 0) j offsets (omega (arith, long)))
                        (offsets_rise b.accepted.sets-are b.lists k (get_or bounds k 0 + i) (get_or bounds k 0 + j) here (omega arith) (omega arith) (omega (arith, long)));
                  };
            };
      }

  -- what the loops over runs read
  pub all_runs : {near_first near-second ladder : List ℕ} → Stored edges offsets bounds table → LadderOf ts ladder → RunsStored offsets bounds near_first near-second runs → AllRuns net table edges offsets bounds near_first near-second ts ladder runs
  all_runs stored ladder kept =
      let up = b.accepted.thresholds-are in
      record {
        some = up.some;
        few = up.few;
        rising = thresholds-ordered up;
        ladder_is = ladder;
        ready = rw runs-are (all-ready b.accepted.sets-are up b.lists stored);
        stored = kept;
      }

  -- and the loop over the sets
  pub sets-ready : count < length set_runs_of → SetsReady net edges offsets bounds set_runs_of ts count runs
  sets-ready room =
      let accepted = b.accepted.sets-are in
      let is : (s : ℕ) → s < count → s < set_count sets = λ s h. omega (arith, b.count-is) in
      record {
        few = b.few_sets;
        in_list = room;
        in_order = λ s h. b.lists.runs.in_order s (is s h);
        to_runs = λ s h. rw runs-are (set-runs-rise accepted b.lists (suc s) (set_count sets) (is s h) (omega arith));
        fits = λ s h. record { at = λ k l. sum_fits accepted b.accepted.thresholds-are b.lists s (is s h) (get_or ts k 0) };
      }

-- there is room for a row of each set
pub room_for : {net : Network} {sets es xs ts : List ℕ} {room : ℕ} {edges offsets bounds set_runs_of table : List ℕ} {count : ℕ} → Begun net sets es xs ts room edges offsets bounds set_runs_of table count → count * length ts ≤ room
room_for b = let many = b.count-is in rw many b.accepted.roomy

-- on refusal the answers are kept
pub refused-answered : {net : Network} {sets es xs ts old : List ℕ} {r : Check} {edges offsets bounds set_runs_of table : List ℕ} {x : Refusal} → Ready net sets es xs ts (length old) r edges offsets bounds set_runs_of table → r ≡ Err x → CountsAnswered net sets es xs ts old r old
refused-answered {net} {sets} {es} {xs} {ts} {old} ready told =
    record { verdict = ready.verdict; after = written-refused (count_table net sets (events es xs) ts) old (sym ready.verdict ∙ told) }

-- on acceptance all rows are written
pub all-answered : {net : Network} {sets es xs ts old : List ℕ} {r : Check} {edges offsets bounds set_runs_of table : List ℕ} {count : ℕ} {answers : List ℕ} → Begun net sets es xs ts (length old) edges offsets bounds set_runs_of table count → Ready net sets es xs ts (length old) r edges offsets bounds set_runs_of table → r ≡ accepted → RowsAfter net edges offsets bounds set_runs_of ts count old answers → CountsAnswered net sets es xs ts old r answers
unfolding set_row
all-answered {net} {sets} {es} {xs} {ts} {old} {edges = edges} {offsets} {bounds} {set_runs_of} {count = count} {answers} b ready told w =
    let row : ℕ → List ℕ = set_row net edges offsets bounds set_runs_of ts in
    let is : rows_from row 0 (set_count sets) ≡ count_table net sets (events es xs) ts = table-rows net sets (events es xs) ts row (λ s h. row_is b.accepted.sets-are b.accepted.thresholds-are b.lists s h) in
    let many = b.count-is in
    record {
      verdict = ready.verdict;
      after =
          rows_written row (length ts) (set-row-length net edges offsets bounds set_runs_of ts) old count (count * length ts) answers w.rows
          ∙ rw (many, is) (sym (written_is (count_table net sets (events es xs) ts) old (sym ready.verdict ∙ told)));
    }
