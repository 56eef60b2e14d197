-- What the reader of thresholds answers for a whole text, from what its parts answered.
use Rattle.std.specs.Prelude.{Result, Ok, Err}
use Rattle.model.specs.declared.refusal.Refusal.{Refusal}
use Rattle.model.specs.Refusal.{accepted}
use mathlib.Core.List.{List}
use mathlib.Core.Path.{◌≡◌, ap, ◌∙◌}
use Prim.Native.Nat.{ℕ, ◌≤◌}
use native.Mathlib.Omega.{arith}
use lib.ListN.{length, take}
use Rattle.model.proofs.Laws.Answer.{answer-refused, written-refused}
use Rattle.model.proofs.Laws.Refusal.{or-else-next, or-else-refused, both-accept}
use Rattle.model.specs.Limits.{max_thresholds}
use Rattle.text.specs.Lines.{csv_lines}
use Rattle.text.specs.Reading.{read, length_check}
use Rattle.text.specs.ThresholdText.{threshold_lines}
use Rattle.model.specs.Checks.{room_check}
use Rattle.reading.specs.Answers.{check_of, list_in, entries, Answered}
use Rattle.threshold_reader.specs.Answers.{text_thresholds, threshold_file_check, threshold_text_check, ThresholdsRead}
use Rattle.threshold_reader.specs.Steps.{thresholds_in, ThresholdsTaken}

-- A threshold text.
module _ (bytes old : List ℕ) where
  -- a refusal leaves the answer list alone
  thresholds-refused : {x : Refusal} → threshold_text_check bytes old ≡ Err x → ThresholdsRead bytes old (Err x) old
  thresholds-refused e = record { answer = answer-refused _ e; after = written-refused _ old e }

  -- 1
  pub thresholds-too-long : {x : Refusal} → length_check bytes ≡ Err x → ThresholdsRead bytes old (Err x) old
  unfolding threshold_text_check threshold_file_check
  thresholds-too-long e = thresholds-refused (or-else-refused _ (or-else-refused _ e))

  -- a line is refused, or something is missing at the end
  pub thresholds-bad : {x : Refusal} {r : Result ℕ Refusal} {list : List ℕ} → length_check bytes ≡ accepted → ThresholdsTaken bytes r list → r ≡ Err x → ThresholdsRead bytes old (Err x) old
  unfolding threshold_text_check threshold_file_check thresholds_in check_of
  thresholds-bad {x} {list = list} long t e =
      let file : threshold_file_check bytes ≡ Err x = or-else-next _ long ∙ ap check_of (t.outcome ∙ ap (λ r. thresholds_in r list) e) in
      thresholds-refused (or-else-refused _ file)

  -- all lines are read
  pub thresholds-answered : {count : ℕ} {r answer : Result ℕ Refusal} {list new : List ℕ} → length_check bytes ≡ accepted → ThresholdsTaken bytes r list → r ≡ Ok count → Answered (take count list) old answer new → ThresholdsRead bytes old answer new
  unfolding threshold_text_check threshold_file_check thresholds_in check_of text_thresholds list_in
  thresholds-answered {count} {list = list} long t e a =
      let all : threshold_lines (csv_lines bytes) ≡ read (take count list) = t.outcome ∙ ap (λ r. thresholds_in r list) e in
      let check : threshold_text_check bytes old ≡ room_check (length (take count list)) old = or-else-next _ (both-accept long (ap check_of all)) ∙ rw all in
      record { answer = rw (check, all) a.answer; after = rw (check, all) a.after }

-- no more than there is room for
pub thresholds-few : {bytes list : List ℕ} {count : ℕ} {r : Result ℕ Refusal} → ThresholdsTaken bytes r list → r ≡ Ok count → count ≤ max_thresholds
unfolding entries
thresholds-few t e = omega (arith, t.few, ap entries e)
