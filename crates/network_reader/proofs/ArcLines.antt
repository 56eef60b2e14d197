-- The lines of a network text behind what was seen: what becomes of each form.
use mathlib.Core.Bool.{true, false, ◌&&◌, ◌||◌}
use mathlib.Core.List.{List, [], ◌∷◌, ◌++◌}
use mathlib.Core.Path.{◌≡◌, refl, ◌∙◌}
use Prim.Native.Nat.{ℕ, suc, ◌*◌, ◌%◌, ◌+◌, ◌≤◌, ◌<◌}
use native.Mathlib.Numerals.{add-one}
use native.Mathlib.Omega.{arith}
use borrow.Author.Tests.{lt-ltb, le-ltb, eqb-true}
use lib.Dec.{eqb, ltb}
use lib.ListN.{length}
use Rattle.std.specs.Prelude.{Option, Some, None, Result, Ok, Err}
use Rattle.model.specs.declared.refusal.Fault.{Fault}
use Rattle.model.specs.declared.refusal.Fault.TheVariants.{BadSizes, Misplaced, NoForm, NotTurned, WrongArcs}
use Rattle.model.proofs.Laws.Refusal.{both_true, between-true}
use Rattle.model.specs.Limits.{max_nodes, max_edges}
use Rattle.model.specs.Refusal.{is_between_of}
use Rattle.text.specs.NetworkText.{reading, turns_last, take_arc_of, take_problem_of, network_step, arc}
use Rattle.text.specs.Reading.{taken, refused, require}
use Rattle.text.specs.declared.network_line.NetworkLine.{NetworkLine}
use Rattle.text.specs.declared.network_line.NetworkLine.TheVariants as form
use Rattle.text.specs.Parallel.{Level}
use Rattle.reading.proofs.Require.{holds, fails}
use Rattle.network_reader.specs.declared.arcs.Arcs.{Arcs}
use Rattle.network_reader.specs.Steps.{arcs_in, arc_after, ArcChecked, state_in, announced, came, Sound, step_in, LineTaken, ProblemTaken}
use Rattle.network_reader.proofs.ArcSteps.{arcs-length}

-- a line that is refused, for whatever reason
pub line_refused : {s : Option Arcs} {line : NetworkLine} {firsts seconds lengths : List ℕ} {fault : Fault} {firsts' seconds' lengths' : List ℕ} → network_step (state_in s firsts seconds lengths) line ≡ refused fault → LineTaken s line firsts seconds lengths (Err fault) firsts' seconds' lengths'
unfolding step_in
line_refused e = record { step = e; sound = λ t w. absurd (let z : ◌≡◌ {A = ℕ} 0 1 = cc in omega arith) }

-- a line that is taken
pub line_taken : {s t : Option Arcs} {line : NetworkLine} {firsts seconds lengths firsts' seconds' lengths' : List ℕ} → network_step (state_in s firsts seconds lengths) line ≡ taken (state_in t firsts' seconds' lengths') → Sound t → LineTaken s line firsts seconds lengths (Ok t) firsts' seconds' lengths'
unfolding step_in
line_taken {t = t} e o = record { step = e; sound = λ u w. let same : t ≡ u = cc in rw (← same) o }

-- the bounds of what was seen
pub record Bounds (arcs count : ℕ) : Type 0 where
  pub no_more : count ≤ arcs
  pub few : arcs ≤ 2 * max_edges
  pub even : arcs % 2 ≡ 0

pub bounds_of : {a : Arcs} → Sound (Some a) → Bounds a.arcs a.count
unfolding came announced
bounds_of s = record { no_more = s.no_more; few = s.few; even = s.even }

pub sound-of : {a : Arcs} → Bounds a.arcs a.count → Sound (Some a)
unfolding came announced
sound-of b = record { no_more = b.no_more; few = b.few; even = b.even }

-- One more arc behind others.
module _ {a : Arcs} (s : Sound (Some a)) {firsts seconds lengths : List ℕ} (l : Level max_edges firsts seconds lengths) where
  long : length (arcs_in a.count firsts seconds lengths) ≡ a.count
  long = arcs-length l a.count (omega (arith, (bounds_of s).no_more, (bounds_of s).few))

  module _ {u v w : ℕ} where
    -- 7 and 9
    pub arc-refused : {r : Result (Unit {0}) Fault} {fault : Fault} → ArcChecked a.nodes (arc u v w) r → r ≡ Err fault → LineTaken (Some a) (form.Arc u v w) firsts seconds lengths (Err fault) firsts seconds lengths
    unfolding network_step state_in take_arc_of arc_after
    arc-refused k e = line_refused (k.before _ ∙ rw e)

    module _ {r : Result (Unit {0}) Fault} (k : ArcChecked a.nodes (arc u v w) r) (e : r ≡ Ok tt) where
      -- 10 and 11 are left to ask
      two-left : take_arc_of a.nodes a.arcs (arcs_in a.count firsts seconds lengths) (arc u v w) ≡ require (eqb (a.count % 2) 0 || turns_last (arcs_in a.count firsts seconds lengths) (arc u v w)) NotTurned (require (ltb a.count a.arcs) WrongArcs (taken (reading a.nodes a.arcs (arcs_in a.count firsts seconds lengths ++ (arc u v w ∷ [])))))
      unfolding take_arc_of arc_after
      two-left = k.before _ ∙ rw (e, long)

      -- 10
      pub arc-not-turned : (eqb (a.count % 2) 0 || turns_last (arcs_in a.count firsts seconds lengths) (arc u v w)) ≡ false → LineTaken (Some a) (form.Arc u v w) firsts seconds lengths (Err NotTurned) firsts seconds lengths
      unfolding network_step state_in
      arc-not-turned f = line_refused (two-left ∙ fails NotTurned _ f)

      module _ (t : (eqb (a.count % 2) 0 || turns_last (arcs_in a.count firsts seconds lengths) (arc u v w)) ≡ true) where
        -- 11
        pub arc-surplus : a.arcs ≤ a.count → LineTaken (Some a) (form.Arc u v w) firsts seconds lengths (Err WrongArcs) firsts seconds lengths
        unfolding network_step state_in
        arc-surplus h = line_refused (two-left ∙ holds NotTurned t (fails WrongArcs _ (le-ltb _ _ h)))

        -- taken and stored
        pub arc-taken : {firsts' seconds' lengths' : List ℕ} → a.count < a.arcs → arcs_in (suc a.count) firsts' seconds' lengths' ≡ arcs_in a.count firsts seconds lengths ++ (arc u v w ∷ []) → LineTaken (Some a) (form.Arc u v w) firsts seconds lengths (Ok (Some (record { nodes = a.nodes; arcs = a.arcs; count = a.count + 1 }))) firsts' seconds' lengths'
        unfolding network_step state_in
        arc-taken h stored =
            line_taken (two-left ∙ holds NotTurned t (holds WrongArcs (lt-ltb _ _ h) (rw (add-one, stored))))
            (sound-of (record { no_more = omega arith; few = (bounds_of s).few; even = (bounds_of s).even }))

-- A `p` line.
module _ {s : Option Arcs} {nodes arcs : ℕ} where
  -- 5: a second one
  pub problem-misplaced : {a : Arcs} → s ≡ Some a → ProblemTaken s nodes arcs (Err Misplaced)
  unfolding network_step state_in
  problem-misplaced e = rw e (record { over = λ firsts seconds lengths. line_refused refl })

  -- 6
  pub problem-refused : s ≡ None → (is_between_of 1 max_nodes nodes && (eqb (arcs % 2) 0 && is_between_of 2 (2 * max_edges) arcs)) ≡ false → ProblemTaken s nodes arcs (Err BadSizes)
  unfolding network_step state_in take_problem_of
  problem-refused e f = rw e (record { over = λ firsts seconds lengths. line_refused (fails BadSizes _ f) })

  pub problem-taken : s ≡ None → (is_between_of 1 max_nodes nodes && (eqb (arcs % 2) 0 && is_between_of 2 (2 * max_edges) arcs)) ≡ true → ProblemTaken s nodes arcs (Ok (Some (record { nodes = nodes; arcs = arcs; count = 0 })))
  unfolding network_step state_in take_problem_of arcs_in
  problem-taken e f =
      let both = both_true (eqb (arcs % 2) 0) (is_between_of 2 (2 * max_edges) arcs) (both_true (is_between_of 1 max_nodes nodes) _ f).1 in
      let even : arcs % 2 ≡ 0 = eqb-true _ _ both.0 in
      let few : arcs ≤ 2 * max_edges = (between-true 2 (2 * max_edges) arcs both.1).to in
      rw e
      (record {
        over = λ firsts seconds lengths.
            line_taken (holds BadSizes f refl) (sound-of (record { no_more = omega arith; few = few; even = even }));
      })

-- The forms of a line.
module _ {s : Option Arcs} {line : NetworkLine} (firsts seconds lengths : List ℕ) where
  -- 5: an arc before any `p` line
  pub arc-misplaced : {u v w : ℕ} → s ≡ None → line ≡ form.Arc u v w → LineTaken s line firsts seconds lengths (Err Misplaced) firsts seconds lengths
  unfolding network_step state_in
  arc-misplaced e f = rw (e, f) (line_refused refl)

  -- 3
  pub no-form : line ≡ form.Other → LineTaken s line firsts seconds lengths (Err NoForm) firsts seconds lengths
  unfolding network_step
  no-form f = rw f (line_refused refl)

  pub remark-taken : Sound s → line ≡ form.Remark → LineTaken s line firsts seconds lengths (Ok s) firsts seconds lengths
  unfolding network_step
  remark-taken o f = rw f (line_taken refl o)
