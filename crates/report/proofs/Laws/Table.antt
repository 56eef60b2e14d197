-- The table over lists that pass every check, and its printed bytes.
use mathlib.Core.Bool.{Bool, true, false}
use mathlib.Core.List.{List, map}
use mathlib.Core.Path.{◌≡◌, refl, sym, ap, ◌∙◌}
use Prim.Native.Nat.{ℕ, zero, suc, ◌-◌, ◌≤◌}
use native.Mathlib.Omega.{arith}
use lib.ListN.{length, take, replicate, length-map, length-replicate}
use lib.Seq.{length-take-le}
use Rattle.std.specs.Prelude.{Result, Ok, Err}
use Rattle.model.specs.declared.refusal.Refusal.{Refusal}
use Rattle.model.specs.Refusal.{Check, accepted}
use Rattle.model.specs.Answer.{answer, written}
use Rattle.model.specs.Checks.{room_check, thresholds_check}
use Rattle.model.specs.Envelope.{observed, envelope}
use Rattle.model.specs.Events.{events, greatest_set_of}
use Rattle.model.specs.Limits.{max_thresholds}
use Rattle.model.specs.Network.{Network}
use Rattle.model.proofs.Laws.CheckParts.{room-accepts}
use Rattle.model.proofs.Laws.Checks.{thresholds-accepted}
use Rattle.model.proofs.Laws.Refusal.{both-accept}
use Rattle.text.specs.Parallel.{Level}
use Rattle.table.proofs.Laws.Columns.{spanned-most}
use Rattle.table.specs.Table.{TableAnswered, leasts, greatests, spans_check, columns_of, table_answer, table_check}
use Rattle.table.specs.declared.answers.Table.{Table}
use Rattle.table.specs.declared.answers.Table.TheVariants.{Observed, Compared}
use Rattle.printing.specs.Answers.{TablePrinted, table_bytes}
use Rattle.printing.proofs.Laws.Verdict.{room-decides}
use Rattle.reading.proofs.Laws.Answers.{front_is}
use Rattle.report.specs.Parts.{AllPass}
use Rattle.report.specs.Report.{BytesPrinted, counts_table}
use Rattle.report.proofs.Laws.Columns.{some-value, ends-long, observed-printed, compared-printed}

-- what each answer says of the comparison sets
is-observed : (g : ℕ) → ◌≡◌ {A = Result Table Refusal} (Ok Observed) (table_answer accepted g) → g ≡ 0
unfolding table_answer answer columns_of
is-observed zero e = refl
is-observed (suc g) e = absurd (let z : ◌≡◌ {A = ℕ} 0 1 = cc in omega arith)

is-compared : (g : ℕ) → ◌≡◌ {A = Result Table Refusal} (Ok Compared) (table_answer accepted g) → g ≡ suc (g - 1)
unfolding table_answer answer columns_of
is-compared zero e = absurd (let z : ◌≡◌ {A = ℕ} 0 1 = cc in omega arith)
is-compared (suc g) e = omega arith

not-refused : {G : Type 0} (g : ℕ) {x : Refusal} → ◌≡◌ {A = Result Table Refusal} (Err x) (table_answer accepted g) → G
unfolding table_answer answer columns_of
not-refused zero e = absurd (let z : ◌≡◌ {A = ℕ} 0 1 = cc in omega arith)
not-refused (suc g) e = absurd (let z : ◌≡◌ {A = ℕ} 0 1 = cc in omega arith)

-- the answers stand in front
pub front_of : {r : Check} {n : ℕ} (answers old new : List ℕ) → length answers ≡ n → new ≡ written r answers old → r ≡ accepted → take n new ≡ answers
front_of answers old new e w a = rw (← e) (front_is answers old w a)

-- three lists of zeros
pub zeros : (n : ℕ) → Level n (replicate n 0) (replicate n 0) (replicate n 0)
zeros n = record { one = length-replicate n 0; two = length-replicate n 0; three = length-replicate n 0 }

-- three lists that kept their lengths
pub still-level : {n : ℕ} {a b c a' b' c' : List ℕ} → Level n a b c → length a' ≡ length a → length b' ≡ length b → length c' ≡ length c → Level n a' b' c'
still-level level x y z = record { one = x ∙ level.one; two = y ∙ level.two; three = z ∙ level.three }

-- the bytes of a table printed for thresholds that pass
table-bytes : (comparisons : Bool) (ts counts lower upper out : List ℕ) {bytes : List ℕ} {r : Result ℕ Refusal} {out' : List ℕ} → thresholds_check ts ≡ accepted → length counts ≡ length ts → length lower ≡ length ts → length upper ≡ length ts → table_bytes comparisons ts counts lower upper ≡ bytes → TablePrinted comparisons ts counts lower upper out r out' → BytesPrinted bytes out r out'
table-bytes comparisons ts counts lower upper out pass o l u e p =
    let decided = room-decides comparisons ts counts lower upper out (sym o) (sym l) (sym u) pass in
    record { answer = rw (← e, ← decided) p.answer; after = rw (← e, ← decided) p.after }

module _ {net : Network} {sets es xs ts o l u : List ℕ} (pass : AllPass net sets es xs ts) (level : Level max_thresholds o l u) where
  pub few : length ts ≤ max_thresholds
  few = (thresholds-accepted ts pass.thresholds_pass).few

  -- nothing is refused
  room : (n : ℕ) (answers : List ℕ) → n ≤ length ts → length answers ≡ max_thresholds → room_check n answers ≡ accepted
  room n answers h e =
      let fits : n ≤ length answers = omega (arith, few) in
      room-accepts n answers fits

  all-accepted : table_check net sets es xs ts o l u ≡ accepted
  unfolding table_check spans_check
  all-accepted =
      let spans = spanned-most (greatest_set_of sets) (length ts) in
      both-accept (room (length ts) o (omega arith) level.one)
      (both-accept (both-accept (room _ l spans level.two) (room _ u spans level.three)) (both-accept pass.sets_pass pass.thresholds_pass))

  module _ {r : Result Table Refusal} {o' l' u' : List ℕ} (answered : TableAnswered net sets es xs ts o l u r o' l' u') where
    answer-is : r ≡ table_answer accepted (greatest_set_of sets)
    answer-is = answered.told ∙ ap (λ (c : Check). table_answer c (greatest_set_of sets)) all-accepted

    pub refused-never : {G : Type 0} {x : Refusal} → r ≡ Err x → G
    refused-never e = not-refused (greatest_set_of sets) (sym e ∙ answer-is)

    module _ (level' : Level max_thresholds o' l' u') where
      front_long : (answers : List ℕ) → length answers ≡ max_thresholds → length (take (length ts) answers) ≡ length ts
      front_long answers e = length-take-le (length ts) answers (omega (arith, few))

      counts-front : take (length ts) o' ≡ map (observed net sets (events es xs)) ts
      counts-front = front_of _ o o' (length-map ts (observed net sets (events es xs))) answered.observed_after all-accepted

      module _ {out : List ℕ} {q : Result ℕ Refusal} {out' : List ℕ} where
        pub observed-bytes : r ≡ Ok Observed → TablePrinted false ts (take (length ts) o') (take (length ts) l') (take (length ts) u') out q out' → BytesPrinted (counts_table net sets (events es xs) ts) out q out'
        observed-bytes told p =
            table-bytes false ts _ _ _ out pass.thresholds_pass (front_long o' level'.one) (front_long l' level'.two) (front_long u' level'.three)
            (observed-printed net sets (events es xs) ts _ _ _ (is-observed _ (sym told ∙ answer-is)) counts-front)
            p

        pub compared-bytes : r ≡ Ok Compared → TablePrinted true ts (take (length ts) o') (take (length ts) l') (take (length ts) u') out q out' → BytesPrinted (counts_table net sets (events es xs) ts) out q out'
        unfolding leasts greatests
        compared-bytes told p =
            let some = is-compared _ (sym told ∙ answer-is) in
            let valued = some-value net sets (events es xs) _ some in
            table-bytes true ts _ _ _ out pass.thresholds_pass (front_long o' level'.one) (front_long l' level'.two) (front_long u' level'.three)
            (compared-printed net sets (events es xs) ts _ _ _ _ some counts-front
            (front_of _ l l' (ends-long (envelope net sets (events es xs)) valued (λ a b. a) ts) answered.lower_after all-accepted)
            (front_of _ u u' (ends-long (envelope net sets (events es xs)) valued (λ a b. b) ts) answered.upper_after all-accepted))
            p
