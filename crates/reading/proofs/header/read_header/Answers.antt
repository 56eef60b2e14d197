-- The header is found or not by its bytes, and the verdict goes with the answer.
use mathlib.Core.Path.{◌≡◌, sym, ◌∙◌}
use Prim.Native.Nat.{◌≤◌}
use native.Mathlib.Omega.{arith}
use borrow.Author.Tests.{eqb-true, eqb-false}
use lib.ListN.{length}
use lib.Seq.{length-take-le}
use Rattle.text.proofs.Laws.Lines.{csv-next}
use Rattle.reading.proofs.Headed.{no_text, header-missing, header-found, header_read}
use Rattle.reading.proofs.header.read_header.Goals.{Else-is_empty}
use Rattle.reading.proofs.header.read_header.Goals as goal

-- a text that is not empty has a byte
some : (c : Else-is_empty) → 1 ≤ length c.args.text.now
some c = let no : length c.args.text.now ≡ 0 → ⊥ = eqb-false _ _ (sym c.is_empty.ensures ∙ c.if-is_empty.false) in omega arith

pub returns-then-is_empty : goal.returns-then-is_empty
returns-then-is_empty c = header_read _ _ (no_text _ _ (eqb-true _ _ (sym c.is_empty.ensures ∙ c.if-is_empty.true)))

pub slice_bounds-same_bytes-end : goal.slice_bounds-same_bytes-end
slice_bounds-same_bytes-end c = sym (length-take-le _ _ (omega (arith, (csv-next c.csv_line-line.ensures).ordered, (csv-next c.csv_line-line.ensures).inside)))

pub returns-then-not-same_bytes : goal.returns-then-not-same_bytes
returns-then-not-same_bytes c = header_read _ _ (header-missing _ _ (some (goal.at.returns-then-not-same_bytes c).Else-is_empty) c.csv_line-line.ensures (sym c.same_bytes.ensures ∙ c.if-not-same_bytes.true))

pub returns : goal.returns
returns c = header_read _ _ (header-found _ _ (some (goal.at.returns c).Else-is_empty) c.csv_line-line.ensures (sym c.same_bytes.ensures ∙ c.if-not-same_bytes.false))
