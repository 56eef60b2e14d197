use mathlib.Core.Path.{sym}
use borrow.Author.Tests.{le-leb, lt-leb}
use Rattle.model.proofs.Laws.Refusal.{unless-accepts, unless-refuses}
use Rattle.model.specs.Checks.{room_check}
use Rattle.validate.proofs.number.check_room.Goals as goal

pub returns-then-answers-count : goal.returns-then-answers-count
unfolding room_check
returns-then-answers-count c = sym (unless-refuses _ _ _ (lt-leb _ _ c.if-answers-count.true))

pub returns : goal.returns
unfolding room_check
returns c = sym (unless-accepts _ _ _ (le-leb _ _ c.if-answers-count.false))
