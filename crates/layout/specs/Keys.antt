-- Events as numbers, so that one order on numbers serves: the edge above, the offset below.
use Rattle.std.specs.Prelude.{List, map, ◌≡◌, ℕ, ◌+◌, ◌*◌, ◌/◌, ◌%◌, length}
use Rattle.model.specs.Events.{Event, event, events, sorted}

-- one more than the greatest offset that a key holds: 2 to the power 32
abbrev pub key_base : ℕ
key_base = 4294967296

abbrev pub key_of : Event → ℕ
key_of e = e.edge * key_base + e.offset

abbrev pub edge_of : ℕ → ℕ
edge_of key = key / key_base

abbrev pub offset_of : ℕ → ℕ
offset_of key = key % key_base

abbrev pub event_of : ℕ → Event
event_of key = event (edge_of key) (offset_of key)

-- lists of edges, offsets and keys that belong together
pub record Fitting (es xs keys : List ℕ) : Type 0 where
  pub same_offsets : length xs ≡ length es
  pub same_keys : length keys ≡ length es

-- the events sorted, in the same two lists
pub record SortedEvents (es xs es' xs' : List ℕ) : Type 0 where
  pub sorted_edges : es' ≡ map (λ e. e.edge) (sorted (events es xs))
  pub sorted_offsets : xs' ≡ map (λ e. e.offset) (sorted (events es xs))
