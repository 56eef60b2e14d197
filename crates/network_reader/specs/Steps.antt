-- What the parts of the reader of networks answer: three lists hold the first of every two arcs read so far, side by side.
use Rattle.std.specs.Prelude.{Option, Some, None, Result, Ok, Err, ◌&&◌, List, ◌≡◌, ℕ, ◌*◌, ◌%◌, ◌≤◌, take}
use Rattle.model.specs.declared.network.NetworkSize.{NetworkSize}
use Rattle.model.specs.declared.refusal.Refusal.{Refusal}
use Rattle.model.specs.declared.refusal.Fault.{Fault}
use Rattle.model.specs.declared.refusal.Fault.TheVariants.{BadLength, BadNode}
use Rattle.model.specs.Answer.{written}
use Rattle.model.specs.Limits.{max_edges, max_length}
use Rattle.model.specs.Network.{Network, edges}
use Rattle.model.specs.Refusal.{is_between_of}
use Rattle.text.specs.Lines.{feed_lines}
use Rattle.text.specs.NetworkText.{ArcRead, arc, arcs_of, NetworkState, before_problem, reading, network_step, network_end, network_lines}
use Rattle.text.specs.Reading.{Step, taken, refused, Outcome, read, refused_at, require}
use Rattle.text.specs.declared.network_line.NetworkLine.{NetworkLine}
use Rattle.text.specs.declared.network_line.NetworkLine.TheVariants as form
use Rattle.text.specs.Parallel.{Level}
use Rattle.reading.specs.Answers.{rooms_check}
use Rattle.network_reader.specs.declared.arcs.Arc.{Arc}
use Rattle.network_reader.specs.declared.arcs.Arcs.{Arcs}
use Rattle.network_reader.specs.Answers.{network_answer, edges_read}

-- an arc as the code has it
abbrev pub arc_of : Arc → ArcRead
arc_of a = arc a.from a.to a.weight

-- the first count arcs that three lists stand for
unfoldable pub arcs_in : ℕ → List ℕ → List ℕ → List ℕ → List ArcRead
arcs_in count firsts seconds lengths = take count (arcs_of firsts seconds lengths)

-- what was seen so far: no `p` line, or what it announced and what came
unfoldable pub state_in : Option Arcs → List ℕ → List ℕ → List ℕ → NetworkState
state_in None firsts seconds lengths = before_problem
state_in (Some a) firsts seconds lengths = reading a.nodes a.arcs (arcs_in a.count firsts seconds lengths)

-- the number of arcs that were announced is even and within the limit, and no more came
unfoldable pub announced : Option Arcs → ℕ
announced None = 0
announced (Some a) = a.arcs

unfoldable pub came : Option Arcs → ℕ
came None = 0
came (Some a) = a.count

pub record Sound (s : Option Arcs) : Type 0 where
  pub no_more : came s ≤ announced s
  pub few : announced s ≤ 2 * max_edges
  pub even : announced s % 2 ≡ 0

-- a line's answer
unfoldable pub step_in : Result (Option Arcs) Fault → List ℕ → List ℕ → List ℕ → Step NetworkState
step_in (Ok s) firsts seconds lengths = taken (state_in s firsts seconds lengths)
step_in (Err fault) firsts seconds lengths = refused fault

-- 7 and 9 for one arc, whatever is asked behind them
unfoldable pub arc_after : Result (Unit {0}) Fault → Step NetworkState → Step NetworkState
arc_after (Ok done) onward = onward
arc_after (Err fault) onward = refused fault

pub record ArcChecked (nodes : ℕ) (b : ArcRead) (r : Result (Unit {0}) Fault) : Type 0 where
  pub before : (onward : Step NetworkState) → require (is_between_of 1 nodes b.from && is_between_of 1 nodes b.to) BadNode (require (is_between_of 1 max_length b.weight) BadLength onward) ≡ arc_after r onward

-- a line of some form, behind what was seen
pub record LineTaken (s : Option Arcs) (line : NetworkLine) (firsts seconds lengths : List ℕ) (r : Result (Option Arcs) Fault) (firsts' seconds' lengths' : List ℕ) : Type 0 where
  pub step : network_step (state_in s firsts seconds lengths) line ≡ step_in r firsts' seconds' lengths'
  pub sound : (t : Option Arcs) → r ≡ Ok t → Sound t

-- a `p` line, whatever the lists hold
pub record ProblemTaken (s : Option Arcs) (nodes arcs : ℕ) (r : Result (Option Arcs) Fault) : Type 0 where
  pub over : (firsts seconds lengths : List ℕ) → LineTaken s (form.Problem nodes arcs) firsts seconds lengths r firsts seconds lengths

-- all lines: the network at the front of the lists, or the refusal
unfoldable pub all_arcs : Result NetworkSize Refusal → List ℕ → List ℕ → List ℕ → Outcome NetworkState
all_arcs (Ok size) firsts seconds lengths = read (reading size.nodes (2 * size.edges) (arcs_in (2 * size.edges) firsts seconds lengths))
all_arcs (Err r) firsts seconds lengths = refused_at r.fault r.place

-- the end of the text, whatever the lists hold
pub record Ended (s : Option Arcs) (place : ℕ) (r : Result NetworkSize Refusal) : Type 0 where
  pub outcome : (firsts seconds lengths : List ℕ) → Level max_edges firsts seconds lengths → network_end place (state_in s firsts seconds lengths) ≡ all_arcs r firsts seconds lengths
  pub few : edges_read r ≤ max_edges

-- a whole network text
pub record NetworkTaken (bytes : List ℕ) (r : Result NetworkSize Refusal) (firsts seconds lengths : List ℕ) : Type 0 where
  pub outcome : network_lines (feed_lines bytes) ≡ all_arcs r firsts seconds lengths
  pub few : edges_read r ≤ max_edges

-- 2, or the answer lists filled with a network's lists
pub record EdgesAnswered (net : Network) (firsts seconds lengths : List ℕ) (r : Result NetworkSize Refusal) (firsts' seconds' lengths' : List ℕ) : Type 0 where
  pub answer : r ≡ network_answer (rooms_check (edges net) firsts seconds lengths) net
  pub firsts_after : firsts' ≡ written (rooms_check (edges net) firsts seconds lengths) net.firsts firsts
  pub seconds_after : seconds' ≡ written (rooms_check (edges net) firsts seconds lengths) net.seconds seconds
  pub lengths_after : lengths' ≡ written (rooms_check (edges net) firsts seconds lengths) net.lengths lengths
