-- A check of a network and of the lists lent with it, b beside it being what was said of those, and then a further check d.
use mathlib.Core.Path.{◌≡◌, ◌∙◌, sym}
use Rattle.model.proofs.Laws.Refusal.{both-accepted}
use Rattle.model.specs.Refusal.{or_else, Check, accepted}

-- what was said of the other lists is accepted
pub over-accepted : (a b c : Check) {told r : Check} → told ≡ b → r ≡ or_else a (or_else told c) → r ≡ accepted → b ≡ accepted
over-accepted a b c e over accepted = sym e ∙ (both-accepted _ _ (both-accepted _ _ (sym over ∙ accepted)).1).0
