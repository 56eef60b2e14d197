-- `write_digits` writes the last digit of what is left each time.
use native.Mathlib.Omega.{arith}
use Rattle.text.proofs.Laws.Digits.{fill_start, fill_more}
use Rattle.printing.proofs.writing.write_digits.Goals as goal

pub loop-i-init : goal.loop-i-init
loop-i-init c = fill_start _ _ c.requires

pub loop-i-preserved : goal.loop-i-preserved
loop-i-preserved c = fill_more c.loop-i.invariant _ (omega arith)
