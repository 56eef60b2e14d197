use mathlib.Core.Path.{refl, sym, ◌∙◌}
use borrow.Author.Tests.{eq-eqb, ne_eqb, eqb-true}
use Rattle.network_reader.proofs.And.{and-fails, and-next}
use Rattle.network_reader.proofs.ArcSteps.{first_passes, second-turned}
use Rattle.network_reader.proofs.BothWays.{is_turned_of}
use Rattle.network_reader.proofs.arcs.is_turned.Goals.{then-firsts-edge, else-firsts-edge}
use Rattle.network_reader.proofs.arcs.is_turned.Goals as goal

pub returns-then-count-eq0 : goal.returns-then-count-eq0
returns-then-count-eq0 c = first_passes _ _ c.if-count-eq0.true

pub returns-then-seconds-edge : goal.returns-then-seconds-edge
unfolding is_turned_of
returns-then-seconds-edge c = elim c.if-firsts-edge.branch [
  | then-firsts-edge w ↦ and-next (eq-eqb _ _ w.if-firsts-edge.true) (and-next (sym w.value-is ∙ c.if-seconds-edge.true) refl) ∙ sym (second-turned c.requires.1 _ _ c.if-count-eq0.false c.requires.0)
  | else-firsts-edge w ↦ absurd (w.if-firsts-edge.false (eqb-true _ _ (sym w.value-is ∙ c.if-seconds-edge.true)))
]

pub returns-else-seconds-edge : goal.returns-else-seconds-edge
unfolding is_turned_of
returns-else-seconds-edge c = elim c.if-firsts-edge.branch [
  | then-firsts-edge w ↦ c.if-seconds-edge.false ∙ and-next (eq-eqb _ _ w.if-firsts-edge.true) (and-fails _ (sym w.value-is ∙ c.if-seconds-edge.false)) ∙ sym (second-turned c.requires.1 _ _ c.if-count-eq0.false c.requires.0)
  | else-firsts-edge w ↦ c.if-seconds-edge.false ∙ and-fails _ (ne_eqb _ _ w.if-firsts-edge.false) ∙ sym (second-turned c.requires.1 _ _ c.if-count-eq0.false c.requires.0)
]
