-- Too little room decides alone; otherwise the checks of validate, one after the other.
use Rattle.std.proofs.Common.{rules, ◌≡◌, sym, ◌∙◌, Err}
use Rattle.model.proofs.Laws.Refusal.{or-else-refused, goes_on}
use Rattle.prepare.proofs.Laws.Verdict.{no_room, with-room}
use Rattle.prepare.proofs.checks.check_counts.Goals as goal

pub returns-then-not-has_room : goal.returns-then-not-has_room
returns-then-not-has_room c = no_room _ _ _ _ _ _ (sym c.has_room.ensures ∙ c.if-not-has_room.true)

pub returns-in_err-check_sets : goal.returns-in_err-check_sets
returns-in_err-check_sets c = let roomy = sym c.has_room.ensures ∙ c.if-not-has_room.false in
    let told : c.from_residual.result ≡ Err c.in_err-check_sets.field-0.0 = search rules in
    told ∙ sym (or-else-refused _ (sym c.check_sets.ensures ∙ c.in_err-check_sets.was)) ∙ with-room _ _ _ _ _ _ roomy

pub returns : goal.returns
returns c = let roomy = sym c.has_room.ensures ∙ c.if-not-has_room.false in
    goes_on c.check_sets.ensures c.in_ok-check_sets.was c.check_thresholds.ensures ∙ with-room _ _ _ _ _ _ roomy
