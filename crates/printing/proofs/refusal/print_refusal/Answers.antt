-- The line fits, or nothing is written.
use mathlib.Core.Path.{sym, ◌∙◌}
use borrow.Author.Tests.{leb-true}
use Rattle.model.proofs.Laws.Answer.{answer-refused, written-refused}
use Rattle.model.proofs.Laws.CheckParts.{room-accepts}
use Rattle.printing.proofs.Laws.Writing.{put_written}
use Rattle.printing.proofs.Laws.Verdict.{bytes-answer, room-refused, room-at-front}
use Rattle.printing.proofs.refusal.print_refusal.Goals as goal

pub returns-then-not-refusal_fits : goal.returns-then-not-refusal_fits
returns-then-not-refusal_fits c = let refused = room-refused _ _ (sym c.refusal_fits.ensures ∙ c.if-not-refusal_fits.true) in
    record { answer = answer-refused _ refused; after = written-refused _ _ refused }

pub put_refusal-requires : goal.put_refusal-requires
put_refusal-requires c = room-at-front _ _ (leb-true _ _ (sym c.refusal_fits.ensures ∙ c.if-not-refusal_fits.false))

pub returns : goal.returns
returns c = let accepted = room-accepts _ _ (leb-true _ _ (sym c.refusal_fits.ensures ∙ c.if-not-refusal_fits.false)) in
    record { answer = bytes-answer accepted c.put_refusal.ensures; after = put_written _ _ _ _ accepted c.put_refusal.ensures }
