-- The promise of the table, from the checks, the counts and the columns.
use Rattle.model.specs.Refusal.{Check, accepted}
use mathlib.Core.List.{List, ◌++◌, map}
use mathlib.Core.Path.{◌≡◌, refl, sym, ap, ◌∙◌}
use Prim.Native.Nat.{ℕ, suc, ◌*◌, ◌≤◌}
use native.Mathlib.Nat.{mul-le-mul}
use native.Mathlib.Omega.{arith}
use borrow.Author.Tests.{le-leb}
use lib.ListN.{length, drop, take}
use Rattle.model.specs.Answer.{written}
use Rattle.model.specs.Checks.{sets_over_network_check, thresholds_check}
use Rattle.model.specs.Envelope.{observed, envelope}
use Rattle.model.specs.Events.{events, greatest_set_of, set_count}
use Rattle.model.specs.Limits.{max_set, max_thresholds}
use Rattle.model.specs.Network.{Network}
use Rattle.std.specs.Prelude.{Ok, Err}
use Rattle.model.specs.Answer.{answer}
use Rattle.model.specs.declared.refusal.Refusal.{Refusal}
use Rattle.model.proofs.Laws.Answer.{written-refused}
use Rattle.model.proofs.Laws.CheckParts.{room-accepted}
use Rattle.model.proofs.Laws.Checks.{sets-accepted, thresholds-accepted}
use Rattle.model.proofs.Laws.Refusal.{both-accepted, both-accept}
use Rattle.prepare.specs.Counts.{CountsAnswered, counts_check, count_table}
use Rattle.prepare.proofs.Laws.Verdict.{with-room}
use Rattle.validate.proofs.SetSizes.{greatest-small}
use Rattle.table.specs.Columns.{ColumnsFilled, ColumnsFit, columns}
use Rattle.table.specs.Table.{TableAnswered, spanned, spans_check, table_answer, table_check}
use Rattle.table.specs.declared.answers.Table.{Table}
use Rattle.table.proofs.Laws.Counted.{observed-row, columns-are}

-- as many counts as there may be
abbrev pub most_counts : ℕ
most_counts = 2048

-- accepted: there is room in the answer lists, and room for all counts
pub record TableAccepted (net : Network) (sets es xs ts first second third : List ℕ) : Type 0 where
  pub passed : table_check net sets es xs ts first second third ≡ accepted
  pub first_room_of : length ts ≤ length first
  pub second_room_of : spanned (greatest_set_of sets) (length ts) ≤ length second
  pub third_room : spanned (greatest_set_of sets) (length ts) ≤ length third
  pub few-counts : set_count sets * length ts ≤ most_counts
  pub counts-accepted : counts_check net sets es xs ts most_counts ≡ accepted

module _ {net : Network} {sets es xs ts first second third : List ℕ} where
  -- a refusal leaves the three lists as they were
  pub table-refused : {r : Check} {x : Refusal} → r ≡ table_check net sets es xs ts first second third → r ≡ Err x → TableAnswered net sets es xs ts first second third (Err x) first second third
  unfolding table_answer answer
  table-refused e told =
      let no = sym e ∙ told in
      record {
        told = rw no;
        observed_after = written-refused _ first no;
        lower_after = written-refused _ second no;
        upper_after = written-refused _ third no;
      }

  pub table-accepted : {r : Check} → r ≡ table_check net sets es xs ts first second third → r ≡ accepted → TableAccepted net sets es xs ts first second third
  unfolding table_check spans_check set_count
  table-accepted e told =
      let ok = sym e ∙ told in
      let one = both-accepted _ _ ok in
      let two = both-accepted _ _ one.1 in
      let spans = both-accepted _ _ two.0 in
      let rest = both-accepted (sets_over_network_check net sets es xs) (thresholds_check ts) two.1 in
      let few_sets : greatest_set_of sets ≤ max_set = greatest-small sets max_set (sets-accepted net sets es xs rest.0).numbers in
      let sets-to : suc (greatest_set_of sets) ≤ suc max_set = omega arith in
      let few-counts : suc (greatest_set_of sets) * length ts ≤ suc max_set * max_thresholds = mul-le-mul sets-to (thresholds-accepted ts rest.1).few in
      record {
        passed = ok;
        first_room_of = room-accepted _ first one.0;
        second_room_of = room-accepted _ second spans.0;
        third_room = room-accepted _ third spans.1;
        few-counts = few-counts;
        counts-accepted = sym (with-room net sets es xs ts most_counts (le-leb _ _ few-counts)) ∙ both-accept rest.0 rest.1;
      }

  module _ (a : TableAccepted net sets es xs ts first second third) {old rows : List ℕ} {r : Check} {g : ℕ} (counted : CountsAnswered net sets es xs ts old r rows) (room : length old ≡ most_counts) (greatest : g ≡ greatest_set_of sets) where
    rows_are : rows ≡ count_table net sets (events es xs) ts ++ drop (length (count_table net sets (events es xs) ts)) old
    unfolding written
    rows_are = counted.after ∙ rw (room, a.counts-accepted) refl

    pub columns-fit : length rows ≡ most_counts → ColumnsFit rows (length ts) g first second third
    unfolding set_count
    columns-fit long =
        record {
          rows_there = record { there = rw greatest (omega (arith, a.few-counts)) };
          first_room_of = a.first_room_of;
          second_room_of = rw greatest a.second_room_of;
          third_room = rw greatest a.third_room;
        }

    pub table-answered : {columns : Table} {first' second' third' : List ℕ} → ColumnsFilled rows (length ts) g first second third columns first' second' third' → TableAnswered net sets es xs ts first second third (Ok columns) first' second' third'
    unfolding table_answer answer
    table-answered filled =
        let rest : List ℕ = drop (length (count_table net sets (events es xs) ts)) old in
        let front : take (length ts) rows ≡ map (observed net sets (events es xs)) ts = ap (take (length ts)) rows_are ∙ observed-row net sets (events es xs) ts rest in
        let spans : columns rows (length ts) g ≡ map (envelope net sets (events es xs)) ts = rw (rows_are, greatest) (columns-are net sets (events es xs) ts rest) in
        record {
          told = rw (a.passed, ← greatest, filled.answer);
          observed_after = rw (a.passed, ← front) filled.observed_after;
          lower_after = rw (a.passed, ← spans) filled.lower_after;
          upper_after = rw (a.passed, ← spans) filled.upper_after;
        }
