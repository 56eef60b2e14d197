-- The line of a refused file, or what comes next.
use mathlib.Core.List.{List}
use mathlib.Core.Path.{◌≡◌}
use Prim.Native.Nat.{ℕ}
use Rattle.std.specs.Prelude.{Result, Err}
use Rattle.model.specs.declared.refusal.Refusal.{Refusal}
use Rattle.model.specs.Refusal.{Check, accepted, fault_number}
use Rattle.printing.specs.Answers.{RefusalPrinted}
use Rattle.report.specs.Report.{BytesPrinted, line_or}

module _ {check : Check} (file more : List ℕ) {out : List ℕ} {r : Result ℕ Refusal} {out' : List ℕ} where
  -- a refused file
  pub line-printed : {x : Refusal} → check ≡ Err x → RefusalPrinted file (fault_number x.fault) x.place out r out' → BytesPrinted (line_or check file more) out r out'
  unfolding line_or
  line-printed e p = rw e (record { answer = p.answer; after = p.after })

  -- an accepted one
  pub next-printed : check ≡ accepted → BytesPrinted more out r out' → BytesPrinted (line_or check file more) out r out'
  unfolding line_or
  next-printed e p = rw e p
