use mathlib.Core.Path.{sym, ◌∙◌}
use Rattle.pair_counts.proofs.Laws.Verdict.{no-set, no_first, no_second, asked}
use Rattle.pair_counts.proofs.verdict.check_asked.Goals.{then-not-is_between-via-then-not-is_between, then-not-is_between-via-else-not-is_between+then-not-is_between-2}
use Rattle.pair_counts.proofs.verdict.check_asked.Goals as goal

pub returns-then-not-is_set : goal.returns-then-not-is_set
returns-then-not-is_set c = no-set _ _ _ _ (sym c.is_set.ensures ∙ c.if-not-is_set.true)

pub returns-then-not-is_between : goal.returns-then-not-is_between
returns-then-not-is_between c = elim c.then-not-is_between.branch [
  | then-not-is_between-via-then-not-is_between w ↦ no_first _ _ _ _ (sym c.is_set.ensures ∙ c.if-not-is_set.false) (sym c.is_between.ensures ∙ w.if-not-is_between.true)
  | then-not-is_between-via-else-not-is_between+then-not-is_between-2 w ↦
      no_second _ _ _ _ (sym c.is_set.ensures ∙ c.if-not-is_set.false) (sym c.is_between.ensures ∙ w.if-not-is_between.false) (sym w.is_between-else-not-is_between.ensures ∙ w.if-not-is_between-2.true)
]

pub returns : goal.returns
returns c = asked _ _ _ _ (sym c.is_set.ensures ∙ c.if-not-is_set.false) (sym c.is_between.ensures ∙ c.if-not-is_between.false) (sym c.is_between-else-not-is_between.ensures ∙ c.if-not-is_between-2.false)
