-- The limits of networks, events and thresholds (01), each written once; that of a text stands in text/specs/Reading. The types of
-- src/ that carry them are tied to these by their promises.
use Rattle.std.specs.Prelude.{ℕ, ◌*◌}

abbrev pub max_nodes : ℕ
max_nodes = 512

abbrev pub max_edges : ℕ
max_edges = 1024

-- metres
abbrev pub max_length : ℕ
max_length = 1000000

-- in all sets together
abbrev pub max_events : ℕ
max_events = 8192

-- the ordered pairs of so many events, an event with itself included: no pair count is greater
abbrev pub max_pairs : ℕ
max_pairs = max_events * max_events

-- the greatest set number
abbrev pub max_set : ℕ
max_set = 31

abbrev pub max_thresholds : ℕ
max_thresholds = 64
