-- Half of the lesser sum and both lengths.
use Rattle.std.proofs.Common.{ℕ, ◌+◌, ◌/◌, min, ap, ◌∙◌, ap₂}
use Rattle.edge_pair.specs.Ways.{greatest_distance_of}
use Rattle.edge_pair.proofs.ways.greatest_distance.Goals as goal

pub returns : goal.returns
unfolding greatest_distance_of
returns c = ap (λ (n : ℕ). (n + c.args.edges.length1 + c.args.edges.length2) / 2) (c.min-ways.ensures ∙ ap₂ min c.both.ensures.0 c.both-2.ensures.0)
