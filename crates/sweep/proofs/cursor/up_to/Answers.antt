-- The fields as defined.
use Rattle.sweep.specs.Moving.{up_to_cursor}
use borrow.Author.Rules.{rules}
use Rattle.sweep.proofs.cursor.up_to.Goals as goal

pub returns : goal.returns
unfolding up_to_cursor
returns c = search rules
