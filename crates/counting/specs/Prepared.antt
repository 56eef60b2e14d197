-- What is counted over what the loops over runs read.
use Rattle.std.specs.Prelude.{ℕ, List, Bool, length, slice_index}
use Rattle.model.specs.Network.{network_of}
use Rattle.edge_pair.specs.Totals.{Added}
use Rattle.prepare.specs.RunPairs.{run_pairs, pairs_with, other_row}
use Rattle.counting.specs.Rows.{RowFits, SetsReady, RowsAfter}
use Rattle.counting.specs.Runs.{taken_of, ApartTo, each_pairs}
use Rattle.counting.specs.declared.prepared.Prepared.{Prepared}
use Rattle.counting.specs.declared.runs.Taken.{Taken}

module _ (p : Prepared) where
  -- a run that is taken with others, by its number
  abbrev pub taken : ℕ → Taken
  taken a = taken_of (network_of p.network) p.edges.now p.bounds.now a

  -- nothing on the edges of the runs from one on up to before another is reached from the edge at index i
  abbrev pub AreApart : ℕ → ℕ → ℕ → Type 0
  AreApart i from to = ApartTo (network_of p.network) p.table.now p.edges.now p.bounds.now i from to

  -- the pairs within t of run a and run b, of run a with the n from run r on, and of n runs from run r on with themselves or the earlier ones
  abbrev pub pairs_of_two : ℕ → ℕ → ℕ → ℕ
  pairs_of_two t a b = run_pairs (network_of p.network) p.edges.now p.offsets.now p.bounds.now t a b

  abbrev pub pairs_of_one : ℕ → ℕ → ℕ → ℕ → ℕ
  pairs_of_one t r a n = pairs_with (network_of p.network) p.edges.now p.offsets.now p.bounds.now t r a n

  abbrev pub pairs_of_each : Bool → ℕ → ℕ → ℕ → ℕ
  pairs_of_each own t r n = each_pairs (network_of p.network) p.edges.now p.offsets.now p.bounds.now own t r n

  -- such a number has been added to the totals at each threshold
  abbrev pub AddedAt : (ℕ → ℕ) → List ℕ → List ℕ → Type 0
  AddedAt f old new = Added (length p.thresholds.now) (λ k. f (slice_index p.thresholds.now k)) old new

  -- the row of the set whose runs are those from r up to before q, and that its counts fit
  abbrev pub runs_row : ℕ → ℕ → List ℕ
  runs_row r q = other_row (network_of p.network) p.edges.now p.offsets.now p.bounds.now p.thresholds.now r q

  abbrev pub CountsFit : ℕ → ℕ → Type 0
  CountsFit r q = RowFits (network_of p.network) p.edges.now p.offsets.now p.bounds.now p.thresholds.now r q

  -- the sets are ready, and their rows are written
  abbrev pub AllReady : List ℕ → ℕ → Type 0
  AllReady set_runs count = SetsReady (network_of p.network) p.edges.now p.offsets.now p.bounds.now set_runs p.thresholds.now count p.runs

  abbrev pub AllWritten : List ℕ → ℕ → List ℕ → List ℕ → Type 0
  AllWritten set_runs count old new = RowsAfter (network_of p.network) p.edges.now p.offsets.now p.bounds.now set_runs p.thresholds.now count old new
