-- What the reader of reports answers for a whole text, from what its parts answered.
use Rattle.std.specs.Prelude.{Result, Ok, Err}
use Rattle.model.specs.declared.refusal.Refusal.{Refusal}
use mathlib.Core.List.{List, map}
use mathlib.Core.Path.{◌≡◌, refl, sym, ap, ◌∙◌}
use Prim.Native.Nat.{ℕ, ◌≤◌}
use native.Mathlib.Omega.{arith}
use lib.ListN.{length, take, length-map}
use Rattle.model.proofs.Laws.Answer.{answer-refused, written-refused}
use Rattle.model.proofs.Laws.CheckParts.{set-lists-accepted}
use Rattle.model.proofs.Laws.Refusal.{or-else-next, or-else-refused, both-accepted}
use Rattle.model.specs.Answer.{answer}
use Rattle.model.specs.Checks.{network_lists, set_lists, network_check, equal_sets_check, sets_over_network_check}
use Rattle.model.specs.Limits.{max_events}
use Rattle.model.specs.Network.{Network}
use Rattle.model.specs.Refusal.{Check, accepted}
use Rattle.text.specs.EventText.{Row, EventState, before_header, rows, take_row, take_numbers_of, event_step, event_end, event_lines, row}
use Rattle.text.specs.Lines.{csv_lines}
use Rattle.text.specs.Reading.{read, refused_at, length_check}
use Rattle.text.specs.declared.fields.Numbers.{Numbers}
use Rattle.text.specs.declared.fields.Numbers.TheVariants.{Nothing, One, Two, Three}
use Rattle.validate.specs.Part.{with_lengths}
use Rattle.reading.specs.Answers.{check_of, list_in, entries, AnsweredThree}
use Rattle.text.specs.Parallel.{Level}
use Rattle.reading.proofs.Answering.{rooms-decide}
use Rattle.text.proofs.Laws.Parallel.{comes-out-to}
use Rattle.reading.proofs.Progress.{read_alike}
use Rattle.event_reader.specs.Answers.{text_rows, event_file_check, event_text_check, EventsRead}
use Rattle.event_reader.specs.Steps.{rows_in, all_rows, EventsTaken, rows_check, RowsAnswered}
use Rattle.event_reader.proofs.Laws.{read-good, sixteen-left}

-- rows that pass the check of all sets stand in lists of one length
level-lists : (net : Network) (xs ys zs : List ℕ) → sets_over_network_check net xs ys zs ≡ accepted → (length ys ≡ length xs) × (length zs ≡ length xs)
unfolding sets_over_network_check
level-lists net xs ys zs e =
    let both = both-accepted (network_lists net) _ e in
    let same = set-lists-accepted xs ys zs (both-accepted (set_lists xs ys zs) _ both.1).0 in
    (sym same.0, sym (same.0 ∙ same.1))

-- 16 and 2, from what their checks said
module _ {net : Network} {xs ys zs sets edges offsets : List ℕ} where
  pub sets-refused : {x : Refusal} → sets_over_network_check net xs ys zs ≡ Err x → RowsAnswered net xs ys zs sets edges offsets (Err x) sets edges offsets
  unfolding rows_check
  sets-refused e =
      let check : rows_check net xs ys zs sets edges offsets ≡ Err _ = or-else-refused _ e in
      record { answer = answer-refused _ check; sets_after = written-refused xs sets check; edges_after = written-refused ys edges check; offsets_after = written-refused zs offsets check }

  pub rooms-answered : {r : Check} {told : Result ℕ Refusal} {sets' edges' offsets' : List ℕ} → sets_over_network_check net xs ys zs ≡ accepted → AnsweredThree xs ys zs sets edges offsets r sets' edges' offsets' → told ≡ answer r (length xs) → RowsAnswered net xs ys zs sets edges offsets told sets' edges' offsets'
  unfolding rows_check
  rooms-answered {r} e a is =
      let same = level-lists net xs ys zs e in
      let rooms = rooms-decide xs ys zs sets edges offsets same.0 same.1 in
      let check : rows_check net xs ys zs sets edges offsets ≡ r = or-else-next _ e ∙ sym (a.answer ∙ rooms) in
      record { answer = rw check is; sets_after = rw check a.first_after; edges_after = rw check a.second_after; offsets_after = rw check a.third_after }

-- a row is read alike over every network with the same lengths
numbers-alike : (net : Network) (before : List Row) (numbers : Numbers) → take_numbers_of net before numbers ≡ take_numbers_of (with_lengths net.lengths) before numbers
unfolding take_numbers_of take_row
numbers-alike net before Nothing = refl
numbers-alike net before (One x) = refl
numbers-alike net before (Two x y) = refl
numbers-alike net before (Three s e x) = refl

step-alike : (net : Network) (s : EventState) (line : List ℕ) → event_step net s line ≡ event_step (with_lengths net.lengths) s line
unfolding event_step
step-alike net before_header line = refl
step-alike net (rows before) line = numbers-alike net before _

lines-alike : (net : Network) (lines : List (List ℕ)) → event_lines net lines ≡ event_lines (with_lengths net.lengths) lines
unfolding event_lines
lines-alike net lines = ap event_end (read_alike (event_step net) (event_step (with_lengths net.lengths)) (step-alike net) 1 before_header lines)

-- as many rows as the lists have room for
pub rows_few : {lengths bytes xs ys zs : List ℕ} {r : Result ℕ Refusal} {count : ℕ} → EventsTaken lengths bytes r xs ys zs → r ≡ Ok count → count ≤ max_events
unfolding entries
rows_few t e = omega (arith, t.few, ap entries e)

-- A report text over a network, and the answer lists.
module _ (net : Network) (bytes sets edges offsets : List ℕ) where
  events-refused : {x : Refusal} → event_text_check net bytes sets edges offsets ≡ Err x → EventsRead net bytes sets edges offsets (Err x) sets edges offsets
  events-refused e =
      record {
        answer = answer-refused _ e;
        sets_after = written-refused _ sets e;
        edges_after = written-refused _ edges e;
        offsets_after = written-refused _ offsets e;
      }

  -- 1
  pub text-too-long : {x : Refusal} → length_check bytes ≡ Err x → EventsRead net bytes sets edges offsets (Err x) sets edges offsets
  unfolding event_text_check event_file_check
  text-too-long e = events-refused (or-else-refused _ (or-else-refused _ e))

  -- a fault of the network
  pub network-refused : {x : Refusal} → length_check bytes ≡ accepted → network_check net ≡ Err x → EventsRead net bytes sets edges offsets (Err x) sets edges offsets
  unfolding event_text_check event_file_check
  network-refused short e = events-refused (or-else-refused _ (or-else-next _ short ∙ or-else-refused _ e))

  -- Neither: the lines decide.
  module _ (short : length_check bytes ≡ accepted) (sound : network_check net ≡ accepted) where
    pub lines-refused : {r : Result ℕ Refusal} {xs ys zs : List ℕ} {x : Refusal} → EventsTaken net.lengths bytes r xs ys zs → r ≡ Err x → EventsRead net bytes sets edges offsets (Err x) sets edges offsets
    unfolding event_text_check event_file_check all_rows check_of
    lines-refused {x = x} t e =
        let outcome : event_lines net (csv_lines bytes) ≡ refused_at x.fault x.place = lines-alike net (csv_lines bytes) ∙ t.outcome ∙ rw e in
        events-refused (or-else-refused _ (or-else-next _ short ∙ or-else-next _ sound ∙ or-else-refused _ (ap check_of outcome)))

    -- all lines are read: 16 and 2 decide
    answered : (all : List Row) {told : Result ℕ Refusal} {sets' edges' offsets' : List ℕ} → event_lines net (csv_lines bytes) ≡ read all → RowsAnswered net (map (λ r. r.set) all) (map (λ r. r.edge) all) (map (λ r. r.offset) all) sets edges offsets told sets' edges' offsets' → EventsRead net bytes sets edges offsets told sets' edges' offsets'
    unfolding event_text_check event_file_check check_of text_rows list_in rows_check
    answered all e a =
        let long : length (map (λ (r : Row). r.set) all) ≡ length all = length-map all (λ (r : Row). r.set) in
        let sixteen = sixteen-left net all (read-good net (csv_lines bytes) all e) sound in
        let file : event_file_check net bytes ≡ equal_sets_check (map (λ r. r.set) all) = or-else-next _ short ∙ or-else-next _ sound ∙ or-else-next _ (ap check_of e) ∙ rw e in
        let check : event_text_check net bytes sets edges offsets ≡ rows_check net (map (λ r. r.set) all) (map (λ r. r.edge) all) (map (λ r. r.offset) all) sets edges offsets = rw (file, e, sixteen, long) in
        record {
          answer = rw (check, e, ← long) a.answer;
          sets_after = rw (check, e) a.sets_after;
          edges_after = rw (check, e) a.edges_after;
          offsets_after = rw (check, e) a.offsets_after;
        }

    -- and the rows are at the front of the three lists
    pub rows-answered : {r told : Result ℕ Refusal} {xs ys zs sets' edges' offsets' : List ℕ} {count : ℕ} → EventsTaken net.lengths bytes r xs ys zs → r ≡ Ok count → Level max_events xs ys zs → RowsAnswered net (take count xs) (take count ys) (take count zs) sets edges offsets told sets' edges' offsets' → EventsRead net bytes sets edges offsets told sets' edges' offsets'
    unfolding all_rows rows_in
    rows-answered {xs = xs} {ys = ys} {zs = zs} {count = count} t e l a =
        answered (rows_in count xs ys zs) (lines-alike net (csv_lines bytes) ∙ t.outcome ∙ rw e)
        (rw (comes-out-to row max_events xs ys zs l (λ r. r.set) xs l.one refl (λ i. refl) count, comes-out-to row max_events xs ys zs l (λ r. r.edge) ys l.two refl (λ i. refl) count, comes-out-to row max_events xs ys zs l (λ r. r.offset) zs l.three refl (λ i. refl) count)
        a)
