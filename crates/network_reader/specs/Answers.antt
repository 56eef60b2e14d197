-- What the reader of networks answers and leaves in the answer lists, in 01's checking order: 1; the first bad line, or what is
-- missing at the end; 2 last, for answer lists too short.
use Rattle.std.specs.Prelude.{Result, Ok, Err, List, [], ◌≡◌, ℕ}
use Rattle.model.specs.declared.network.NetworkSize.{NetworkSize}
use Rattle.model.specs.declared.refusal.Refusal.{Refusal}
use Rattle.model.specs.Answer.{answer, written}
use Rattle.model.specs.Network.{Network, network, edges}
use Rattle.model.specs.Refusal.{or_else, Check}
use Rattle.text.specs.Lines.{feed_lines}
use Rattle.text.specs.Reading.{Outcome, read, refused_at, length_check}
use Rattle.text.specs.NetworkText.{NetworkState, before_problem, reading, network_lines, network_of_arcs}
use Rattle.reading.specs.Answers.{check_of, rooms_check}

-- the network of a text that was read, an empty one otherwise
unfoldable pub network_in : Outcome NetworkState → Network
network_in (read before_problem) = network 0 [] [] []
network_in (read (reading nodes arcs all)) = network_of_arcs nodes all
network_in (refused_at fault place) = network 0 [] [] []

unfoldable pub text_network : List ℕ → Network
text_network bytes = network_in (network_lines (feed_lines bytes))

-- the text alone: 1, then the first bad line or what is missing at the end
unfoldable pub network_file_check : List ℕ → Check
network_file_check bytes = or_else (length_check bytes) (check_of (network_lines (feed_lines bytes)))

-- the text, then 2
unfoldable pub network_text_check : List ℕ → List ℕ → List ℕ → List ℕ → Check
network_text_check bytes firsts seconds lengths =
    or_else (network_file_check bytes) (rooms_check (edges (text_network bytes)) firsts seconds lengths)

unfoldable pub network_answer : Check → Network → Result NetworkSize Refusal
network_answer check net = answer check (record { nodes = net.nodes; edges = edges net })

-- how many edges were read
unfoldable pub edges_read : Result NetworkSize Refusal → ℕ
edges_read (Ok size) = size.edges
edges_read (Err r) = 0

-- the promise: the answer, and the three answer lists before and after
pub record NetworkRead (bytes firsts seconds lengths : List ℕ) (r : Result NetworkSize Refusal) (firsts' seconds' lengths' : List ℕ) : Type 0 where
  pub answer : r ≡ network_answer (network_text_check bytes firsts seconds lengths) (text_network bytes)
  pub firsts_after : firsts' ≡ written (network_text_check bytes firsts seconds lengths) (text_network bytes).firsts firsts
  pub seconds_after : seconds' ≡ written (network_text_check bytes firsts seconds lengths) (text_network bytes).seconds seconds
  pub lengths_after : lengths' ≡ written (network_text_check bytes firsts seconds lengths) (text_network bytes).lengths lengths
