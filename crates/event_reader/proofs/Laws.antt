-- The rows of an accepted report text pass every check that later functions make.
use Rattle.model.specs.Refusal.{accepted}
use Rattle.model.specs.declared.refusal.Fault.TheVariants.{BadSet, BeyondEdge, NoEdge, NoHeader, TooManyEvents}
use mathlib.Core.List.{List, [], ◌∷◌, ◌++◌, map}
use mathlib.Core.Path.{◌≡◌, refl, sym, ◌∙◌}
use Prim.Native.Nat.{ℕ, ◌≤◌, ◌<◌}
use native.Mathlib.Omega.{arith}
use borrow.Author.Tests.{le-leb}
use lib.ListN.{length, get_or, length-append, length-map}
use Rattle.model.proofs.Laws.Refusal.{both-accepted, or-else-next, below-good, unless-accepts}
use Rattle.model.proofs.Laws.CheckParts.{same-length-accepts}
use Rattle.model.specs.Checks.{network_check, network_lists, network_values, set_lists, event_lists, set_numbers_check, event_edges_check, event_offsets_check, event_count_check, event_values, equal_sets_check, sets_over_network_check}
use Rattle.model.specs.Limits.{max_events}
use Rattle.model.specs.Network.{Network}
use Rattle.text.specs.EventText.{Row, EventState, before_header, rows, event_step, event_end, event_lines, row}
use Rattle.text.specs.Reading.{taken, Outcome, read, refused_at, read_lines, length_check}
use Rattle.text.specs.Lines.{csv_lines}
use Rattle.reading.specs.Answers.{check_of}
use Rattle.reading.proofs.Laws.Answers.{list_read}
use Rattle.reading.proofs.Laws.Kept.{all-kept, each_snoc, at-index}
use Rattle.reading.proofs.Require.{passed}
use Rattle.event_reader.specs.Answers.{text_rows, event_file_check}
use Rattle.event_reader.proofs.EventRows.{line_taken}
use Rattle.event_reader.proofs.RowSteps.{RowGood}

-- every row passes 12 to 14, and there are not too many
pub record RowsGood (net : Network) (all : List Row) : Type 0 where
  pub each : (k : ℕ) → k < length all → RowGood net (get_or all k (row 0 0 0))
  pub few : length all ≤ max_events

pub no-rows-good : (net : Network) → RowsGood net []
no-rows-good net = record { each = λ k h. absurd (omega arith); few = omega arith }

one-more-good : (net : Network) (all : List Row) (r : Row) → RowsGood net all → RowGood net r → length all < max_events → RowsGood net (all ++ (r ∷ []))
one-more-good net all r g one room =
    record {
      each = each_snoc (RowGood net) (row 0 0 0) all r g.each one;
      few = omega (arith, length-append all (r ∷ []));
    }

-- of what was read so far
data StateGood (net : Network) : EventState → Type 0 where
  none_yet : StateGood net before_header
  some : {all : List Row} → RowsGood net all → StateGood net (rows all)

rows_of : {net : Network} {all : List Row} → StateGood net (rows all) → RowsGood net all
rows_of (some g) = g

-- one more line keeps it
line-keeps : (net : Network) (s : EventState) (line : List ℕ) (s' : EventState) → StateGood net s → event_step net s line ≡ taken s' → StateGood net s'
unfolding event_step
line-keeps net before_header line s' g e = let is : rows [] ≡ s' = cc (passed NoHeader _ e).1 in rw (← is) (some (no-rows-good net))
line-keeps net (rows all) line s' (some g) e =
    let t = line_taken net all _ e in
    rw (← t.1.is) (some (one-more-good net all t.0 g t.1.good t.1.few))

-- so the rows of a text that is read are good
pub read-good : (net : Network) (lines : List (List ℕ)) (all : List Row) → event_lines net lines ≡ read all → RowsGood net all
unfolding event_lines event_end
read-good net lines all e = by (read_lines (event_step net) 1 before_header lines) (λ s is. all-kept (event_step net) (StateGood net) (line-keeps net) 1 before_header lines none_yet is) e
  where
    by : (o : Outcome EventState) → ((s : EventState) → o ≡ read s → StateGood net s) → event_end o ≡ read all → RowsGood net all
    by (read before_header) good f = absurd (let z : ◌≡◌ {A = ℕ} 0 1 = cc in omega arith)
    by (read (rows xs)) good f = let is : xs ≡ all = cc in rw (← is) (rows_of (good (rows xs) refl))
    by (refused_at fault place) good f = absurd (let z : ◌≡◌ {A = ℕ} 0 1 = cc in omega arith)

-- The checks of lists, of the rows' three lists.
module _ (net : Network) (all : List Row) (g : RowsGood net all) where
  -- 12
  sets_pass : set_numbers_check (map (λ r. r.set) all) ≡ accepted
  unfolding set_numbers_check
  sets_pass = below-good BadSet _ _ (λ k h. rw (at-index (λ r. r.set) (row 0 0 0) all refl k) (g.each k (omega (arith, length-map all (λ (r : Row). r.set)))).set-good)

  -- 13
  edges-pass : event_edges_check net (map (λ r. r.edge) all) ≡ accepted
  unfolding event_edges_check
  edges-pass = below-good NoEdge _ _ (λ k h. rw (at-index (λ r. r.edge) (row 0 0 0) all refl k) (g.each k (omega (arith, length-map all (λ (r : Row). r.edge)))).edge-good)

  -- 14
  offsets-pass : event_offsets_check net (map (λ r. r.edge) all) (map (λ r. r.offset) all) ≡ accepted
  unfolding event_offsets_check
  offsets-pass =
      below-good BeyondEdge _ _
      (λ k h. rw (at-index (λ r. r.offset) (row 0 0 0) all refl k, at-index (λ r. r.edge) (row 0 0 0) all refl k) (g.each k (omega (arith, length-map all (λ (r : Row). r.edge)))).offset-good)

  -- 15
  count-passes : event_count_check (length (map (λ r. r.edge) all)) ≡ accepted
  unfolding event_count_check
  count-passes = let few : length (map (λ r. r.edge) all) ≤ max_events = omega (arith, g.few, length-map all (λ (r : Row). r.edge)) in
      unless-accepts _ TooManyEvents max_events (le-leb _ _ few)

  -- 2
  lists-pass : set_lists (map (λ r. r.set) all) (map (λ r. r.edge) all) (map (λ r. r.offset) all) ≡ accepted
  unfolding set_lists event_lists
  lists-pass =
      or-else-next _ (same-length-accepts _ _ (length-map all (λ (r : Row). r.set) ∙ sym (length-map all (λ (r : Row). r.edge))))
      ∙ same-length-accepts _ _ (length-map all (λ (r : Row). r.edge) ∙ sym (length-map all (λ (r : Row). r.offset)))

  -- over an accepted network only 16 is left to ask
  pub sixteen-left : network_check net ≡ accepted → sets_over_network_check net (map (λ r. r.set) all) (map (λ r. r.edge) all) (map (λ r. r.offset) all) ≡ equal_sets_check (map (λ r. r.set) all)
  unfolding network_check sets_over_network_check event_values
  sixteen-left e =
      let both = both-accepted (network_lists net) (network_values accepted net) e in
      or-else-next _ both.0 ∙ or-else-next _ lists-pass ∙ or-else-next _ both.1 ∙ or-else-next _ sets_pass
      ∙ or-else-next _ (or-else-next _ edges-pass ∙ or-else-next _ offsets-pass ∙ count-passes)

-- The rows of a text that is accepted pass the check of all sets over the network.
module _ (net : Network) (bytes : List ℕ) where
  pub events-pass : event_file_check net bytes ≡ accepted → sets_over_network_check net (map (λ r. r.set) (text_rows net bytes)) (map (λ r. r.edge) (text_rows net bytes)) (map (λ r. r.offset) (text_rows net bytes)) ≡ accepted
  unfolding event_file_check text_rows
  events-pass e =
      let one = (both-accepted (length_check bytes) _ e).1 in
      let two = both-accepted (network_check net) _ one in
      let three = both-accepted (check_of (event_lines net (csv_lines bytes))) _ two.1 in
      sixteen-left net (text_rows net bytes) (read-good net (csv_lines bytes) (text_rows net bytes) (list_read _ three.0)) two.0
      ∙ three.1
