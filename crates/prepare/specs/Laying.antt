-- What the functions that lay out the sets keep: cited by inner functions alone.
use Rattle.std.specs.Prelude.{List, map, ◌≡◌, ℕ, ◌+◌, ◌≤◌, ◌<◌, length, get_or, take}
use Rattle.model.specs.Events.{events, having, set_size, greatest_set_of}
use Rattle.model.specs.Limits.{max_events, max_set}
use Rattle.prepare.specs.Prepared.{laid_out_set, grouped_from, grouped, start_of, Runs}

-- what stands beside the set's number, at the front of a list, and how much that is
pub record Gathered (sets values : List ℕ) (s r : ℕ) (out : List ℕ) : Type 0 where
  pub many : r ≡ set_size sets s
  pub front : take r out ≡ having s sets values

-- lent lists that belong together, and room for the events of set s
pub record SetFits (sets es xs : List ℕ) (s : ℕ) (edges offsets : List ℕ) : Type 0 where
  pub sets_length : length sets ≡ length es
  pub same_length : length es ≡ length xs
  pub few : set_size sets s ≤ max_events
  pub edges_room : set_size sets s ≤ length edges
  pub offsets_room : set_size sets s ≤ length offsets

-- set s laid out at the front of two lists, and how many events it has
pub record SetLaid (sets es xs : List ℕ) (s r : ℕ) (edges offsets : List ℕ) : Type 0 where
  pub many : r ≡ set_size sets s
  pub edges_are : take r edges ≡ map (λ e. e.edge) (laid_out_set sets (events es xs) s)
  pub offsets_are : take r offsets ≡ map (λ e. e.offset) (laid_out_set sets (events es xs) s)

-- the same for n sets
pub record SetsFit (sets es xs : List ℕ) (n : ℕ) (edges offsets starts : List ℕ) : Type 0 where
  pub sets_length : length sets ≡ length es
  pub same_length : length es ≡ length xs
  pub few_sets : n ≤ max_set + 1
  pub few : start_of sets n ≤ max_events
  pub edges_room : start_of sets n ≤ length edges
  pub offsets_room : start_of sets n ≤ length offsets
  pub starts_room : n < length starts

-- the first n sets laid out, one after the other, and where each begins
pub record SetsLaid (sets es xs : List ℕ) (n : ℕ) (edges offsets starts : List ℕ) : Type 0 where
  pub edges_are : take (start_of sets n) edges ≡ map (λ e. e.edge) (grouped_from sets (events es xs) 0 n)
  pub offsets_are : take (start_of sets n) offsets ≡ map (λ e. e.offset) (grouped_from sets (events es xs) 0 n)
  pub starts_are : (s : ℕ) → s ≤ n → get_or starts s 0 ≡ start_of sets s

-- all sets, and room for their events, their runs and the run with which each begins
pub record Layable (sets es xs edges offsets bounds set_runs_of : List ℕ) : Type 0 where
  pub sets_length : length sets ≡ length es
  pub same_length : length es ≡ length xs
  pub few_sets : greatest_set_of sets ≤ max_set
  pub few : length es ≤ max_events
  pub edges_room : max_events ≤ length edges
  pub offsets_room : max_events ≤ length offsets
  pub bounds_room : max_events < length bounds
  pub runs_room : max_set + 1 < length set_runs_of

-- all sets laid out and cut into runs
pub record RunsLaid (sets es xs edges offsets bounds set_runs_of : List ℕ) : Type 0 where
  pub edges_are : take (length es) edges ≡ map (λ e. e.edge) (grouped sets (events es xs))
  pub offsets_are : take (length es) offsets ≡ map (λ e. e.offset) (grouped sets (events es xs))
  pub runs : Runs sets edges bounds set_runs_of (length es)
