-- Up, and from there down.
use Rattle.count_augmentation.proofs.thresholds.place_in.Goals as goal

pub walk_down-requires : goal.walk_down-requires
walk_down-requires c = c.walk_up.ensures.0

pub returns : goal.returns
returns c = λ rising. c.walk_down.ensures rising (c.walk_up.ensures.1 rising)
