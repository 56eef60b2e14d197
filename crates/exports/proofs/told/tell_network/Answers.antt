-- The sizes of what is told.
use mathlib.Core.Path.{ap}
use Rattle.exports.specs.Told.{size_read}
use Rattle.exports.proofs.told.tell_network.Goals as goal

pub returns : goal.returns
unfolding size_read
returns c = record {
  told = record { result_is = ap (λ s. s.edges) c.tell-size.ensures.result_is; refusal = c.tell-size.ensures.refusal };
  nodes_are = ap (λ s. s.nodes) c.tell-size.ensures.result_is;
}
