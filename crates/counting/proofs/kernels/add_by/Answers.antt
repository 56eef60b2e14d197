-- Each kernel adds what it counts, which is what lies within each threshold.
use Rattle.counting.proofs.Laws.Kernels.{added-fewer, added-at-once, at_once, two-parts}
use Rattle.counting.specs.Kernels.{tallies, looks_up, joins, none_at_once, none_parted}
use Rattle.counting.proofs.kernels.add_by.Goals as goal

pub returns-in-RangeQuery-clause-adds : goal.returns-in-RangeQuery-clause-adds
returns-in-RangeQuery-clause-adds c = λ fit. rw c.in-RangeQuery.is (tallies (added-fewer fit.few_thresholds (c.add_pairs.ensures.0 fit.ladder_long)))

pub returns-in-CountAugmentation-clause-adds : goal.returns-in-CountAugmentation-clause-adds
returns-in-CountAugmentation-clause-adds c = λ fit. rw c.in-CountAugmentation.is (looks_up (c.add_pairs-in-CountAugmentation.ensures.added fit.rising fit.few))

pub returns-in-NeighborSharing-clause-adds : goal.returns-in-NeighborSharing-clause-adds
returns-in-NeighborSharing-clause-adds c = λ fit. rw c.in-NeighborSharing.is (joins (c.add_pairs-in-NeighborSharing.ensures.added fit.few fit.few_others))

pub returns-in-AtOnce-clause-adds : goal.returns-in-AtOnce-clause-adds
returns-in-AtOnce-clause-adds c = λ fit. rw c.in-AtOnce.is none_at_once

pub returns-in-AtOnce-clause-added : goal.returns-in-AtOnce-clause-added
returns-in-AtOnce-clause-added c = λ ready right. added-at-once ready (at_once (rw c.in-AtOnce.is at right)) (c.pairs_of.ensures ready.laid.first_laid.few ready.laid.second_laid.few) c.change_from.ensures

pub returns-in-Parted-clause-adds : goal.returns-in-Parted-clause-adds
returns-in-Parted-clause-adds c = λ fit. rw c.in-Parted.is none_parted

pub returns-in-Parted-clause-added : goal.returns-in-Parted-clause-added
returns-in-Parted-clause-added c = λ ready right. c.add_parted.ensures (two-parts (rw c.in-Parted.is at right)) (record { small = ready.ladder_is.small }) ready.laid
