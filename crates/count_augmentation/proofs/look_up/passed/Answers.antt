-- By the test.
use borrow.Author.Tests.{lt-ltb, le-ltb}
use Rattle.count_augmentation.proofs.look_up.passed.Goals as goal

pub returns-then-offset-limit : goal.returns-then-offset-limit
returns-then-offset-limit c = simp (lt-ltb c.args.offset c.args.limit c.if-offset-limit.true)

pub returns-else-offset-limit : goal.returns-else-offset-limit
returns-else-offset-limit c = simp (le-ltb c.args.offset c.args.limit c.if-offset-limit.false)
