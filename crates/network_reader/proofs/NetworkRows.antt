-- A network text, line by line into three lists.
use mathlib.Core.Bool.{cond}
use mathlib.Core.List.{List, []}
use mathlib.Core.Path.{◌≡◌, refl, sym, ap, ◌∙◌}
use Prim.Native.Nat.{ℕ, suc, ◌+◌, ◌*◌, ◌/◌, ◌≤◌, ◌<◌}
use native.Mathlib.Omega.{arith}
use borrow.Author.Tests.{eq-eqb, ne_eqb}
use lib.Dec.{eqb}
use lib.ListN.{length, take}
use Rattle.std.specs.Prelude.{Option, Some, None, Result, Ok, Err}
use Rattle.model.specs.declared.network.NetworkSize.{NetworkSize}
use Rattle.model.specs.declared.refusal.Fault.{Fault}
use Rattle.model.specs.declared.refusal.Refusal.{Refusal}
use Rattle.model.specs.declared.refusal.Fault.TheVariants.{Misplaced, WrongArcs}
use Rattle.model.specs.Limits.{max_edges}
use Rattle.text.specs.Lines.{feed_lines}
use Rattle.text.specs.NetworkText.{NetworkState, before_problem, reading, network_line_text, network_step, network_end, ended, network_lines}
use Rattle.text.proofs.Laws.Lines.{NextLine}
use Rattle.text.specs.Reading.{Step, refused, read, refused_at}
use Rattle.text.specs.Parallel.{Level}
use Rattle.reading.proofs.Progress.{Progress, rest, begins, goes_on, stops, all_read, end-place}
use Rattle.network_reader.specs.declared.arcs.Arcs.{Arcs}
use Rattle.network_reader.specs.Steps.{arcs_in, state_in, announced, came, Sound, step_in, LineTaken, all_arcs, Ended, NetworkTaken}
use Rattle.network_reader.specs.Answers.{edges_read}
use Rattle.network_reader.proofs.ArcLines.{bounds_of}
use Rattle.network_reader.proofs.ArcSteps.{arcs-length}

-- the step of a line
abbrev line_step : NetworkState → List ℕ → Step NetworkState
line_step = λ s line. network_step s (network_line_text line)

-- The end of the text.
module _ {s : Option Arcs} (place : ℕ) where
  -- 5: no `p` line came
  pub end-misplaced : s ≡ None → Ended s place (Err (record { fault = Misplaced; place = place }))
  unfolding network_end state_in all_arcs edges_read
  end-misplaced e = rw e (record { outcome = λ firsts seconds lengths l. refl; few = omega arith })

  module _ {a : Arcs} (o : Sound s) (e : s ≡ Some a) where
    end-sound : Sound (Some a)
    end-sound = rw e at o

    -- as many arcs came as are counted
    end_is : (firsts seconds lengths : List ℕ) → Level max_edges firsts seconds lengths → network_end place (state_in s firsts seconds lengths) ≡ cond (eqb a.count a.arcs) (read (reading a.nodes a.arcs (arcs_in a.count firsts seconds lengths))) (refused_at WrongArcs place)
    unfolding network_end state_in
    end_is firsts seconds lengths l = let b = bounds_of end-sound in
        rw (e, arcs-length l a.count (omega (arith, b.no_more, b.few)))

    -- 11: arcs are missing
    pub end-missing : (a.count ≡ a.arcs → ⊥) → Ended s place (Err (record { fault = WrongArcs; place = place }))
    unfolding all_arcs edges_read
    end-missing h = record { outcome = λ firsts seconds lengths l. end_is firsts seconds lengths l ∙ rw (ne_eqb _ _ h); few = omega arith }

    -- all arcs came
    pub end_read : a.count ≡ a.arcs → Ended s place (Ok (record { nodes = a.nodes; edges = a.count / 2 }))
    unfolding all_arcs edges_read
    end_read h =
        let b = bounds_of end-sound in
        let all : a.count ≡ 2 * (a.count / 2) = omega (arith, b.even) in
        let few : a.count / 2 ≤ max_edges = omega (arith, b.few, b.no_more) in
        record {
          outcome = λ firsts seconds lengths l. end_is firsts seconds lengths l ∙ rw (eq-eqb _ _ h) (ap (λ (m : ℕ). read (reading a.nodes m (arcs_in a.count firsts seconds lengths))) (sym h) ∙ ap (λ (m : ℕ). read (reading a.nodes m (arcs_in m firsts seconds lengths))) all);
          few = few;
        }

-- the loop has seen the lines before the one of number place, and stands at a byte
pub record LinesSoFar (bytes : List ℕ) (s : Option Arcs) (firsts seconds lengths : List ℕ) (at place : ℕ) : Type 0 where
  pub sound : Sound s
  pub level : Level max_edges firsts seconds lengths
  pub progress : Progress feed_lines line_step 1 before_problem bytes (state_in s firsts seconds lengths) at place

pub lines-begin : (bytes firsts seconds lengths : List ℕ) → Level max_edges firsts seconds lengths → LinesSoFar bytes None firsts seconds lengths 0 1
unfolding state_in came announced
lines-begin bytes firsts seconds lengths l =
    record {
      sound = record { no_more = omega arith; few = omega arith; even = refl };
      level = l;
      progress = begins feed_lines line_step 1 before_problem bytes;
    }

-- A line, from what its step answers.
module _ {bytes : List ℕ} {s : Option Arcs} {firsts seconds lengths : List ℕ} {at place : ℕ} (t : LinesSoFar bytes s firsts seconds lengths at place) {end onward : ℕ} (h : at < length bytes) (n : NextLine feed_lines (rest bytes at) end onward) {r : Result (Option Arcs) Fault} {firsts' seconds' lengths' : List ℕ} (k : LineTaken s (network_line_text (take end (rest bytes at))) firsts seconds lengths r firsts' seconds' lengths') where
  -- it is taken
  pub one-taken : {s' : Option Arcs} → r ≡ Ok s' → Level max_edges firsts' seconds' lengths' → LinesSoFar bytes s' firsts' seconds' lengths' (at + onward) (place + 1)
  unfolding step_in
  one-taken {s'} e l =
      record {
        sound = k.sound s' e;
        level = l;
        progress = goes_on t.progress h n (k.step ∙ rw e) (omega arith);
      }

  -- it is refused
  pub one-refused : {fault : Fault} → r ≡ Err fault → NetworkTaken bytes (Err (record { fault = fault; place = place })) firsts' seconds' lengths'
  unfolding step_in network_lines ended all_arcs edges_read
  one-refused {fault} e =
      let after : line_step (state_in s firsts seconds lengths) (take end (rest bytes at)) ≡ refused fault = k.step ∙ rw e in
      record { outcome = rw (stops t.progress h n after); few = omega arith }

-- no bytes, no line
no_lines : feed_lines [] ≡ []
unfolding feed_lines
no_lines = refl

-- all lines are read: the end decides
pub lines_end : {bytes : List ℕ} {s : Option Arcs} {firsts seconds lengths : List ℕ} {at place : ℕ} {r : Result NetworkSize Refusal} → LinesSoFar bytes s firsts seconds lengths at place → length bytes ≤ at → Ended s place r → NetworkTaken bytes r firsts seconds lengths
unfolding network_lines ended
lines_end {bytes} {firsts = firsts} {seconds = seconds} {lengths = lengths} {place = place} t end k =
    let last : suc (length (feed_lines bytes)) ≡ place = omega (arith, end-place t.progress no_lines end) in
    record { outcome = rw (all_read t.progress no_lines end, last) (k.outcome firsts seconds lengths t.level); few = k.few }
