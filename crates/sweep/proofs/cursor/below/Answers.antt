-- The fields as defined.
use Rattle.sweep.specs.Moving.{below_cursor}
use borrow.Author.Rules.{rules}
use Rattle.sweep.proofs.cursor.below.Goals as goal

pub returns : goal.returns
unfolding below_cursor
returns c = search rules
