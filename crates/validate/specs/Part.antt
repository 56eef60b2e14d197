-- A network of which only a part is lent. A check that looks at no other part says the same of every network with it.
use Rattle.std.specs.Prelude.{List, [], ℕ}
use Rattle.model.specs.Network.{Network, network}

-- the number of nodes alone
abbrev pub with_nodes : ℕ → Network
with_nodes nodes = network nodes [] [] []

-- the lengths alone
abbrev pub with_lengths : List ℕ → Network
with_lengths lengths = network 0 [] [] lengths

-- all but the number of nodes
abbrev pub with_edges : List ℕ → List ℕ → List ℕ → Network
with_edges firsts seconds lengths = network 0 firsts seconds lengths
