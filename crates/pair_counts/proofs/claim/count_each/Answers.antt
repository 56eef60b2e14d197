use Rattle.pair_counts.proofs.claim.count_each.Goals as goal

pub returns : goal.returns
returns c = record { counted = record { told = _; answered = c.counts.ensures }; counted_2 = record { told = _; answered = c.counts-2.ensures }; counted_3 = record { told = _; answered = c.counts-3.ensures } }
