-- The text of reports within the limits is accepted, and they are read back from it.
use Rattle.model.specs.Refusal.{accepted}
use Rattle.model.specs.declared.refusal.Fault.TheVariants.{BadSet, BeyondEdge, NoEdge, TooManyEvents}
use mathlib.Core.List.Memᴰ
use mathlib.Core.List.{List, [], ◌∷◌, ◌++◌, map, Memᴰ}
use mathlib.Core.Path.{◌≡◌, refl, sym, ap, ◌∙◌}
use Prim.Native.Nat.{ℕ, suc, pred, ◌+◌, ◌≤◌, ◌<◌}
use native.Mathlib.Omega.{arith}
use borrow.Author.Tests.{le-leb, lt-ltb}
use lib.ListN.{length, get_or, length-append, length-map}
use Rattle.model.proofs.Laws.Checks.{IsNetwork, network-accepted, network-accepts, SetsAccepted, sets-accepted}
use Rattle.model.proofs.Laws.Refusal.{true-between}
use Rattle.model.specs.Checks.{network_check, sets_over_network_check}
use Rattle.model.specs.Events.{event, IsEvent}
use Rattle.model.specs.Limits.{max_set, max_events}
use Rattle.model.specs.Network.{Network, edges, size}
use Rattle.text.specs.EventText.{Row, before_header, rows, event_header, take_row, take_numbers_of, event_step, event_end, event_lines}
use Rattle.text.specs.Fields.{comma, same_bytes_of}
use Rattle.text.specs.Lines.{carriage_return, csv_lines}
use Rattle.text.specs.Numbers.{max_number}
use Rattle.text.specs.Reading.{taken, read, read_lines, require}
use Rattle.text.specs.Texts.{row_line, event_text, IsEventText, lacks}
use Rattle.text.proofs.Laws.Lacking.{numbered-lack, numbered-some}
use Rattle.text.proofs.Laws.TextFields.{read-three}
use Rattle.text.proofs.Laws.TextLines.{Plain, one_more, map-plain, csv-plain}
use Rattle.text.proofs.Laws.TextRows.{holds, goes_on, rows-read}

-- what 12 to 14 leave of a row
pub record IsRow (net : Network) (r : Row) : Type 0 where
  pub set_to : r.set ≤ max_set
  pub is_event : IsEvent net (event r.edge r.offset)

-- and 15 of the rows together
pub record AreRows (net : Network) (all : List Row) : Type 0 where
  pub each : (r : Row) → Memᴰ r all → IsRow net r
  pub few : length all ≤ max_events

-- the header is read back
header-plain : Plain carriage_return event_header
unfolding lacks
header-plain = record { free = refl; some = omega arith }

-- and a row's line
row_plain : (r : Row) → Plain carriage_return (row_line r)
unfolding row_line
row_plain r = record {
  free = numbered-lack carriage_return (omega arith) comma refl (r.set ∷ r.edge ∷ r.offset ∷ []);
  some = numbered-some comma r.set (r.edge ∷ r.offset ∷ []);
}

module _ (net : Network) (is : IsNetwork net) (all : List Row) (are : AreRows net all) where
  -- each row is taken behind those before it
  row-taken : (before : List Row) (r : Row) (rest : List Row) → all ≡ before ++ (r ∷ rest) → event_step net (rows before) (row_line r) ≡ taken (rows (before ++ (r ∷ [])))
  unfolding event_step take_numbers_of take_row row_line
  row-taken before r rest e =
      let good = are.each r (rw e (Memᴰ.append_right before (Memᴰ.head refl))) in
      let long : length all ≡ length before + suc (length rest) = ap length e ∙ length-append before (r ∷ rest) in
      let from : 1 ≤ r.edge = good.is_event.from_one in
      let to : r.edge ≤ edges net = good.is_event.to_edges in
      let on : r.offset ≤ size net (pred r.edge) = good.is_event.on_edge in
      let small-set : r.set ≤ max_number = omega (arith, good.set_to) in
      let small-edge : r.edge ≤ max_number = omega (arith, is.edges-to) in
      let small-offset : r.offset ≤ max_number = omega (arith, is.length_to (pred r.edge) (omega arith)) in
      ap (take_numbers_of net before) (read-three comma (omega arith) r.set small-set r.edge small-edge r.offset small-offset)
      ∙ holds BadSet (le-leb r.set max_set good.set_to)
      (holds NoEdge (true-between 1 (edges net) r.edge from to)
      (holds BeyondEdge (le-leb r.offset (size net (pred r.edge)) on)
      (holds TooManyEvents (lt-ltb (length before) max_events (omega (arith, are.few))) refl)))

  -- the header and all rows
  all-taken : read_lines (event_step net) 1 before_header (event_header ∷ map row_line all) ≡ read (rows all)
  unfolding event_step require same_bytes_of
  all-taken =
      goes_on (event_step net) 1 {s = before_header} {s' = rows []} event_header (map row_line all) refl
      ∙ rows-read (event_step net) rows row_line all row-taken 2

-- Rows within the limits, over a network that passes its check, in any text of them: the text is accepted, and they are read.
pub events-read : {net : Network} {all : List Row} {bytes : List ℕ} → IsEventText all bytes → network_check net ≡ accepted → AreRows net all → event_lines net (csv_lines bytes) ≡ read all
unfolding event_text event_lines event_end
events-read {net} {all} is-text accepted are =
    rw (is-text.is, csv-plain is-text.closed (one_more header-plain (map-plain carriage_return row_line row_plain all)), all-taken net (network-accepted net accepted) all are)

-- the place of a row, and what stands there in a list made one from each row
record Place (r : Row) (all : List Row) : Type 0 where
  at : ℕ
  inside : at < length all
  entry : (f : Row → ℕ) → get_or (map f all) at 0 ≡ f r

-- each row of a list has one
place_of : {r : Row} {all : List Row} → Memᴰ r all → Place r all
place_of (Memᴰ.head e) = record { at = 0; inside = omega arith; entry = λ f. ap f (sym e) }
place_of (Memᴰ.tail m) =
    let p = place_of m in
    record { at = suc p.at; inside = omega (arith, p.inside); entry = p.entry }

-- Rows that pass the check of reports given as lists are within the limits, so their text is accepted too.
pub reports-read : (net : Network) {all : List Row} {bytes : List ℕ} → IsEventText all bytes → sets_over_network_check net (map (λ r. r.set) all) (map (λ r. r.edge) all) (map (λ r. r.offset) all) ≡ accepted → event_lines net (csv_lines bytes) ≡ read all
reports-read net {all} is-text accepted = events-read is-text (network-accepts net good.is-network) (record { each = one; few = few })
  where
    good : SetsAccepted net (map (λ r. r.set) all) (map (λ r. r.edge) all) (map (λ r. r.offset) all)
    good = sets-accepted net (map (λ r. r.set) all) (map (λ r. r.edge) all) (map (λ r. r.offset) all) accepted

    few : length all ≤ max_events
    few = rw length-map at good.are-events.few

    one : (r : Row) → Memᴰ r all → IsRow net r
    one r m =
        let p = place_of m in
        let inside : p.at < length (map (λ (r : Row). r.edge) all) = rw length-map p.inside in
        let inside' : p.at < length (map (λ (r : Row). r.set) all) = rw length-map p.inside in
        record {
          set_to = rw (p.entry (λ r. r.set)) at (good.numbers p.at inside');
          is_event = rw (p.entry (λ r. r.edge), p.entry (λ r. r.offset)) at (good.are-events.event-at p.at inside);
        }
