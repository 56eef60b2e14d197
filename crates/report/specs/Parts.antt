-- What the parts of the report ask.
use Rattle.std.specs.Prelude.{List, ◌≡◌, ℕ}
use Rattle.model.specs.Refusal.{accepted}
use Rattle.model.specs.Checks.{network_check, sets_over_network_check, thresholds_check}
use Rattle.model.specs.Network.{Network}

-- a network that passes every check
pub record NetworkPasses (net : Network) : Type 0 where
  pub pass : network_check net ≡ accepted

-- reports over a network that pass every check
pub record ReportsPass (net : Network) (sets es xs : List ℕ) : Type 0 where
  pub pass : sets_over_network_check net sets es xs ≡ accepted

-- and thresholds
pub record AllPass (net : Network) (sets es xs ts : List ℕ) : Type 0 where
  pub sets_pass : sets_over_network_check net sets es xs ≡ accepted
  pub thresholds_pass : thresholds_check ts ≡ accepted
