-- One more row of a report text: its checks, and its place behind the others.
use Rattle.std.specs.Prelude.{Result, Ok, Err}
use Rattle.model.specs.declared.refusal.Fault.{Fault}
use Rattle.model.specs.declared.refusal.Fault.TheVariants.{BadSet, BeyondEdge, NoEdge, TooManyEvents}
use mathlib.Core.Bool.{true, false}
use mathlib.Core.List.{List, [], ◌∷◌, ◌++◌}
use mathlib.Core.Path.{◌≡◌, refl, ◌∙◌}
use Prim.Native.Nat.{ℕ, pred, ◌≤◌, ◌<◌}
use native.Mathlib.Omega.{arith}
use borrow.Author.Tests.{lt-ltb, le-ltb, ltb-true}
use lib.Dec.{leb}
use lib.ListN.{length, set}
use lib.Seq.{length-take-le}
use Rattle.model.specs.Limits.{max_set, max_events}
use Rattle.model.specs.Network.{Network, edges, size}
use Rattle.model.specs.Refusal.{is_between_of}
use Rattle.text.specs.EventText.{Row, EventState, rows, take_row, row}
use Rattle.text.specs.Reading.{taken, refused}
use Rattle.validate.specs.Part.{with_lengths}
use Rattle.text.specs.Parallel.{beside, Level}
use Rattle.text.proofs.Laws.Parallel.{beside-length, one_more}
use Rattle.reading.proofs.Require.{holds, fails, passed}
use Rattle.event_reader.specs.Steps.{rows_in, row_after, RowChecked, rows_after}

-- a row's own tests: 12 to 14
pub record RowGood (net : Network) (r : Row) : Type 0 where
  pub set-good : leb r.set max_set ≡ true
  pub edge-good : is_between_of 1 (edges net) r.edge ≡ true
  pub offset-good : leb r.offset (size net (pred r.edge)) ≡ true

-- a row that is taken passed them all, and there was room for it
pub record RowTaken (net : Network) (before : List Row) (r : Row) (s : EventState) : Type 0 where
  pub good : RowGood net r
  pub few : length before < max_events
  pub is : rows (before ++ (r ∷ [])) ≡ s

pub row-taken : (net : Network) (before : List Row) (r : Row) {s : EventState} → take_row net before r ≡ taken s → RowTaken net before r s
unfolding take_row
row-taken net before r e =
    let one = passed BadSet _ e in
    let two = passed NoEdge _ one.1 in
    let three = passed BeyondEdge _ two.1 in
    let four = passed TooManyEvents _ three.1 in
    record {
      good = record { set-good = one.0; edge-good = two.0; offset-good = three.0 };
      few = ltb-true _ _ four.0;
      is = cc four.1;
    }

-- The checks of one more row, one after the other.
module _ (lengths : List ℕ) (count : ℕ) (r : Row) where
  -- 12
  pub set-refused : leb r.set max_set ≡ false → RowChecked lengths count r (Err BadSet)
  unfolding row_after take_row
  set-refused e = record { behind = λ before long. fails BadSet _ e }

  module _ (s : leb r.set max_set ≡ true) where
    -- 13
    pub edge-refused : is_between_of 1 (length lengths) r.edge ≡ false → RowChecked lengths count r (Err NoEdge)
    unfolding row_after take_row
    edge-refused e = record { behind = λ before long. holds BadSet s (fails NoEdge _ e) }

    module _ (g : is_between_of 1 (length lengths) r.edge ≡ true) where
      -- 14
      pub offset-refused : leb r.offset (size (with_lengths lengths) (pred r.edge)) ≡ false → RowChecked lengths count r (Err BeyondEdge)
      unfolding row_after take_row
      offset-refused e = record { behind = λ before long. holds BadSet s (holds NoEdge g (fails BeyondEdge _ e)) }

      module _ (o : leb r.offset (size (with_lengths lengths) (pred r.edge)) ≡ true) where
        -- 15
        pub count-refused : max_events ≤ count → RowChecked lengths count r (Err TooManyEvents)
        unfolding row_after take_row
        count-refused e = record { behind = λ before long. holds BadSet s (holds NoEdge g (holds BeyondEdge o (fails TooManyEvents _ (rw long (le-ltb _ _ e))))) }

        pub row-accepted : count < max_events → RowChecked lengths count r (Ok tt)
        unfolding row_after take_row
        row-accepted e = record { behind = λ before long. holds BadSet s (holds NoEdge g (holds BeyondEdge o (holds TooManyEvents (rw long (lt-ltb _ _ e)) refl))) }

-- as many rows as are counted
pub rows-length : {n : ℕ} {sets edges offsets : List ℕ} (count : ℕ) → Level n sets edges offsets → count ≤ n → length (rows_in count sets edges offsets) ≡ count
unfolding rows_in
rows-length {n} {sets} {edges} {offsets} count l h =
    length-take-le count (beside row sets edges offsets) (omega (arith, beside-length row n sets edges offsets l))

-- The answer of a check, behind the rows of three lists.
module _ {lengths : List ℕ} {count : ℕ} {sets edges offsets : List ℕ} (h : count ≤ max_events) (l : Level max_events sets edges offsets) {r : Row} {told : Result (Unit {0}) Fault} (k : RowChecked lengths count r told) where
  checked : take_row (with_lengths lengths) (rows_in count sets edges offsets) r ≡ row_after told (rows_in count sets edges offsets) r
  checked = k.behind (rows_in count sets edges offsets) (rows-length count l h)

  -- refused
  pub row-refused : {fault : Fault} → told ≡ Err fault → take_row (with_lengths lengths) (rows_in count sets edges offsets) r ≡ refused fault
  unfolding row_after
  row-refused e = checked ∙ rw e

  -- taken: there is room for it
  pub row_room : told ≡ Ok tt → count < max_events
  unfolding row_after
  row_room e =
      let after : take_row (with_lengths lengths) (rows_in count sets edges offsets) r ≡ taken (rows (rows_in count sets edges offsets ++ (r ∷ []))) = checked ∙ rw e in
      omega (arith, (row-taken _ _ _ after).few, rows-length count l h)

  -- and it is stored behind the others
  pub row-stored : told ≡ Ok tt → take_row (with_lengths lengths) (rows_in count sets edges offsets) r ≡ rows_after (Ok tt) count (set sets count r.set) (set edges count r.edge) (set offsets count r.offset)
  unfolding row_after rows_after rows_in
  row-stored e = checked ∙ rw (e, one_more row max_events sets edges offsets l count r.set r.edge r.offset (row_room e))
