-- What the constructors of the types with limits answer: the sizes, or what the check of the same number refuses with.
use Rattle.std.specs.Prelude.{ℕ, Result}
use Rattle.model.specs.Answer.{answer}
use Rattle.model.specs.Checks.{sizes_check, event_count_check, threshold_count_check}
use Rattle.model.specs.declared.event_set.EventSet.{EventSet}
use Rattle.model.specs.declared.network.NetworkSize.{NetworkSize}
use Rattle.model.specs.declared.refusal.Refusal.{Refusal}
use Rattle.model.specs.declared.thresholds.Thresholds.{Thresholds}

unfoldable pub network_size_of : ℕ → ℕ → Result NetworkSize Refusal
network_size_of nodes edges = answer (sizes_check nodes edges) (record { nodes = nodes; edges = edges })

unfoldable pub event_set_of : ℕ → Result EventSet Refusal
event_set_of len = answer (event_count_check len) (record { len = len })

unfoldable pub thresholds_of : ℕ → Result Thresholds Refusal
thresholds_of len = answer (threshold_count_check len) (record { len = len })
