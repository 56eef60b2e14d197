-- `network_line_of`: the tests of the definition, in its order.
use mathlib.Core.Bool.{or-true}
use mathlib.Core.Path.{sym, ◌∙◌}
use Rattle.text.specs.NetworkText.{network_line_text, problem_mark, arc_mark}
use Rattle.text.proofs.Laws.Fields.{strips-pointwise}
use Rattle.text.proofs.network_line.network_line_of.Goals.{then-same_bytes-via-then-same_bytes, then-same_bytes-via-else-same_bytes+then-begins_with}
use Rattle.text.proofs.network_line.network_line_of.Goals as goal

pub returns-then-same_bytes : goal.returns-then-same_bytes
unfolding network_line_text
returns-then-same_bytes c = elim c.then-same_bytes.branch [
  | then-same_bytes-via-then-same_bytes w ↦ simp (sym c.same_bytes.ensures ∙ w.if-same_bytes.true)
  | then-same_bytes-via-else-same_bytes+then-begins_with w ↦ simp (sym w.begins_with.ensures ∙ w.if-begins_with.true, or-true)
]

pub returns-in-Some : goal.returns-in-Some
unfolding network_line_text
returns-in-Some c =
    rw (c.problem_of.ensures, c.numbers_of.ensures, c.in-Some.ensures.cases.1) (simp (
      sym c.same_bytes.ensures ∙ c.if-same_bytes.false,
      sym c.begins_with.ensures ∙ c.if-begins_with.false,
      strips-pointwise problem_mark c.args.line.now ∙ c.in-Some.ensures.cases.0,
    ))

pub returns-in-Some-strip_prefix : goal.returns-in-Some-strip_prefix
unfolding network_line_text
returns-in-Some-strip_prefix c =
    rw (c.arc_of.ensures, c.numbers_of-in-Some-strip_prefix.ensures, c.in-Some-strip_prefix.ensures.cases.1) (simp (
      sym c.same_bytes.ensures ∙ c.if-same_bytes.false,
      sym c.begins_with.ensures ∙ c.if-begins_with.false,
      strips-pointwise problem_mark c.args.line.now ∙ c.in_default.ensures.cases,
      strips-pointwise arc_mark c.args.line.now ∙ c.in-Some-strip_prefix.ensures.cases.0,
    ))

pub returns : goal.returns
unfolding network_line_text
returns c = simp (
  sym c.same_bytes.ensures ∙ c.if-same_bytes.false,
  sym c.begins_with.ensures ∙ c.if-begins_with.false,
  strips-pointwise problem_mark c.args.line.now ∙ c.in_default.ensures.cases,
  strips-pointwise arc_mark c.args.line.now ∙ c.in_default-strip_prefix.ensures.cases,
)
