-- What the inner functions keep of the set asked about: cited by no public function.
use Rattle.model.specs.Refusal.{Check}
use Rattle.std.specs.Prelude.{Bool, true, cond, List, ◌≡◌, ℕ, ◌+◌, ◌-◌, ◌≤◌, ◌<◌, leb, length, get_or, take, drop}
use Rattle.model.specs.Events.{greatest_set_of}
use Rattle.model.specs.Limits.{max_set}
use Rattle.model.specs.Network.{Network}
use Rattle.prepare.specs.Counts.{CountsAnswered}

-- what a method leaves in its list, whatever it answers beside it
pub record Counted (net : Network) (sets es xs ts old new : List ℕ) : Type 0 where
  pub told : Check
  pub answered : CountsAnswered net sets es xs ts old told new

-- where there is such a set, its first run and that run's first place are in the lists
pub record BoundAsked (set_runs_of bounds : List ℕ) (exists : Bool) (s : ℕ) : Type 0 where
  pub in_runs : exists ≡ true → s < length set_runs_of
  pub in_bounds : exists ≡ true → get_or set_runs_of s 0 < length bounds

-- where the runs of set s begin among the laid-out events, if there is such a set
unfoldable pub bound_of : List ℕ → List ℕ → Bool → ℕ → ℕ
bound_of set_runs_of bounds exists s = cond exists (get_or bounds (get_or set_runs_of s 0) 0) 0

-- the set's part of a laid-out list
unfoldable pub set_part : List ℕ → List ℕ → List ℕ → ℕ → List ℕ → List ℕ
set_part sets set_runs_of bounds s l =
    let from = bound_of set_runs_of bounds (leb s (greatest_set_of sets)) s in
    let to = bound_of set_runs_of bounds (leb s (greatest_set_of sets)) (s + 1) in
    take (to - from) (drop from l)

-- the set's part lies within the laid-out lists, and there is a threshold
pub record SweepAsked (sets ts edges offsets bounds set_runs_of : List ℕ) (s : ℕ) : Type 0 where
  pub thresholds : 1 ≤ length ts
  pub small : s ≤ max_set
  pub begin : BoundAsked set_runs_of bounds (leb s (greatest_set_of sets)) s
  pub end : BoundAsked set_runs_of bounds (leb s (greatest_set_of sets)) (s + 1)
  pub in_order : bound_of set_runs_of bounds (leb s (greatest_set_of sets)) s ≤ bound_of set_runs_of bounds (leb s (greatest_set_of sets)) (s + 1)
  pub in_edges : bound_of set_runs_of bounds (leb s (greatest_set_of sets)) (s + 1) ≤ length edges
  pub in_offsets : bound_of set_runs_of bounds (leb s (greatest_set_of sets)) (s + 1) ≤ length offsets
