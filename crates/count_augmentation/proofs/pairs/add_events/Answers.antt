-- The thresholds are parted where anything of the second edge is within reach, and where all of it is.
use Rattle.edge_pair.specs.Edges.{side_of}
use Rattle.count_augmentation.proofs.Laws.Thresholds.{spread}
use Rattle.count_augmentation.proofs.pairs.add_events.Goals as goal

pub whole_from-requires : goal.whole_from-requires
whole_from-requires c = (c.to_end-u.ensures.1, c.to_end-v.ensures.1)

pub add_between-requires : goal.add_between-requires
unfolding side_of
add_between-requires c = (c.to_end-u.ensures.0, c.to_end-v.ensures.0, c.requires.0, c.requires.1)

pub returns : goal.returns
unfolding side_of
returns c = λ rising. c.add_between.ensures (spread _ _ _ c.to_end-u.ensures.0 c.to_end-v.ensures.0 c.whole_from.ensures c.some_from.ensures (c.place_in-to.ensures rising) (c.place_in-from.ensures rising))
