use Rattle.pair_counts.proofs.Laws.AskedSet.{no_bound, has-bound}
use Rattle.pair_counts.proofs.claim.set_bound.Goals as goal

pub returns-then-not-exists : goal.returns-then-not-exists
returns-then-not-exists c = no_bound _ _ _ _ (c.if-not-exists.true)

pub place-requires : goal.place-requires
place-requires c = c.requires.in_runs (c.if-not-exists.false)

pub place-requires-2 : goal.place-requires-2
place-requires-2 c = rw c.place.ensures (c.requires.in_bounds (c.if-not-exists.false))

pub returns : goal.returns
returns c = has-bound _ _ _ _ (c.if-not-exists.false) c.place.ensures c.place-2.ensures
