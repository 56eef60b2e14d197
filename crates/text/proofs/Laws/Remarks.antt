-- Remarks among the lines of a network text change nothing of what is read.
use mathlib.Core.List.{List, [], ◌∷◌}
use mathlib.Core.Path.{◌≡◌, refl, ap, ◌∙◌}
use Prim.Native.Nat.{ℕ, suc}
use native.Mathlib.Omega.{arith}
use Rattle.text.specs.Fields.{same_bytes_of, begins_with_of}
use Rattle.text.specs.Lines.{line_feed}
use Rattle.text.specs.NetworkText.{NetworkState, network_line_text, network_step}
use Rattle.text.specs.Reading.{Step, taken, refused, Outcome, read, read_lines, next}
use Rattle.text.specs.declared.network_line.NetworkLine.TheVariants.{Remark}
use Rattle.text.specs.Texts.{lacks, IsRemark, bare, saying, WithRemarks, no_more, kept, put_in}
use Rattle.text.proofs.Laws.TextLines.{Plain, AllPlain, one_more}
use Rattle.text.proofs.Laws.TextRows.{goes_on}

-- what a line of bytes does
abbrev pub line_step : NetworkState → List ℕ → Step NetworkState
line_step s line = network_step s (network_line_text line)

-- a remark is read as one
pub remark-line : {line : List ℕ} → IsRemark line → network_line_text line ≡ Remark
unfolding network_line_text same_bytes_of begins_with_of
remark-line bare = refl
remark-line (saying free) = refl

-- with its end and without it
remark-plain : {line : List ℕ} → IsRemark line → Plain line_feed line
unfolding lacks
remark-plain bare = record { free = refl; some = omega arith }
remark-plain (saying free) = record { free = free; some = omega arith }

-- plain lines stay plain with remarks among them
pub remarks-plain : {lines all : List (List ℕ)} → WithRemarks lines all → AllPlain line_feed lines → AllPlain line_feed all
remarks-plain no_more ps = ps
remarks-plain (kept among) (one_more p ps) = one_more p (remarks-plain among ps)
remarks-plain (put_in is among) ps = one_more (remark-plain is) (remarks-plain among ps)

-- no remarks are some too
pub no-remarks : (lines : List (List ℕ)) → WithRemarks lines lines
no-remarks [] = no_more
no-remarks (line ∷ more) = kept (no-remarks more)

-- one line more of a reading that comes to its end, which the lines' numbers have nothing to do with
line-passed : (place place' : ℕ) (t : Step NetworkState) (on on' : NetworkState → Outcome NetworkState) {r : NetworkState} → ((s : NetworkState) → on s ≡ read r → on' s ≡ read r) → next t place on ≡ read r → next t place' on' ≡ read r
unfolding next
line-passed place place' (taken s) on on' more e = more s e
line-passed place place' (refused number) on on' more e = absurd (let z : ◌≡◌ {A = ℕ} 0 1 = cc in omega arith)

-- lines that are read come to the same with remarks among them
pub remarks-passed : {lines all : List (List ℕ)} → WithRemarks lines all → (place place' : ℕ) (s : NetworkState) {r : NetworkState} → read_lines line_step place s lines ≡ read r → read_lines line_step place' s all ≡ read r
unfolding read_lines network_step
remarks-passed no_more place place' s e = e
remarks-passed (kept {line = line} among) place place' s e =
    line-passed place place' (line_step s line) _ _ (λ s'. remarks-passed among (suc place) (suc place') s') e
remarks-passed (put_in {remark = remark} {all = all} is among) place place' s e =
    goes_on line_step place' remark all (ap (network_step s) (remark-line is)) ∙ remarks-passed among place (suc place') s e
