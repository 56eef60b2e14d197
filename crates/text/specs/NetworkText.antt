-- A network text (.gr): what each line is, what it does, and what the whole text comes to.
use Rattle.model.specs.declared.refusal.Fault.TheVariants.{BadLength, BadNode, BadSizes, Misplaced, NoForm, NotTurned, WrongArcs}
use Rattle.std.specs.Prelude.{Bool, true, cond, ◌&&◌, ◌||◌, List, [], ◌∷◌, ◌++◌, map, ℕ, suc, ◌*◌, ◌%◌, eqb, ltb, length, drop}
use Rattle.model.specs.Limits.{max_nodes, max_edges, max_length}
use Rattle.model.specs.Network.{Network, network}
use Rattle.model.specs.Refusal.{is_between_of}
use Rattle.text.specs.Parallel.{beside}
use Rattle.text.specs.Fields.{space, fields, same_bytes_of, begins_with_of, numbers_in}
use Rattle.text.specs.declared.fields.Numbers.{Numbers}
use Rattle.text.specs.declared.fields.Numbers.TheVariants.{Nothing, One, Two, Three}
use Rattle.text.specs.declared.network_line.NetworkLine.{NetworkLine}
use Rattle.text.specs.declared.network_line.NetworkLine.TheVariants.{Remark, Problem, Arc, Other}
use Rattle.text.specs.Reading.{Step, taken, refused, Outcome, read, refused_at, read_lines, require}

-- two numbers make a `p` line, three an `a` line
unfoldable pub problem_in : Numbers → NetworkLine
problem_in Nothing = Other
problem_in (One x) = Other
problem_in (Two x y) = Problem x y
problem_in (Three x y z) = Other

unfoldable pub arc_in : Numbers → NetworkLine
arc_in Nothing = Other
arc_in (One x) = Other
arc_in (Two x y) = Other
arc_in (Three x y z) = Arc x y z

-- what lines begin with: remarks with `c`, the other two with `p sp ` and `a `
abbrev pub remark_mark : ℕ
remark_mark = 99

abbrev pub problem_mark : List ℕ
problem_mark = 112 ∷ 32 ∷ 115 ∷ 112 ∷ 32 ∷ []

abbrev pub arc_mark : List ℕ
arc_mark = 97 ∷ 32 ∷ []

-- a line: a remark (`c` alone, or `c` and a space and anything), `p sp N M`, `a U V W`, or none of these
unfoldable pub network_line_text : List ℕ → NetworkLine
network_line_text line =
    cond (same_bytes_of line (remark_mark ∷ []) || begins_with_of (remark_mark ∷ space ∷ []) line)
    Remark
    (cond (begins_with_of problem_mark line)
    (problem_in (numbers_in (fields space (drop 5 line))))
    (cond (begins_with_of arc_mark line) (arc_in (numbers_in (fields space (drop 2 line)))) Other))

pub record ArcRead : Type 0 where
  pub from : ℕ
  pub to : ℕ
  pub weight : ℕ

abbrev pub arc : ℕ → ℕ → ℕ → ArcRead
arc from to weight = record { from = from; to = to; weight = weight }

abbrev pub turned : ArcRead → ArcRead
turned a = arc a.to a.from a.weight

-- what was read so far: nothing but remarks, or N, M and the arcs in order
pub data NetworkState : Type 0 where
  before_problem : NetworkState
  reading : ℕ → ℕ → List ArcRead → NetworkState

-- this arc is the last one of the list turned round (of a loop it is the same arc again); of an empty list nothing is asked
unfoldable pub turns_last : List ArcRead → ArcRead → Bool
turns_last [] b = true
turns_last (a ∷ []) b = eqb a.from b.to && (eqb a.to b.from && eqb a.weight b.weight)
turns_last (a ∷ a' ∷ more) b = turns_last (a' ∷ more) b

-- 7 and 9 to 11 for one more arc: 10 is asked of every second one (8 no longer occurs: 02, item 3)
unfoldable pub take_arc_of : ℕ → ℕ → List ArcRead → ArcRead → Step NetworkState
take_arc_of nodes arcs before b =
    require (is_between_of 1 nodes b.from && is_between_of 1 nodes b.to) BadNode
    (require (is_between_of 1 max_length b.weight) BadLength
    (require (eqb (length before % 2) 0 || turns_last before b) NotTurned
    (require (ltb (length before) arcs) WrongArcs (taken (reading nodes arcs (before ++ (b ∷ [])))))))

-- 6: N is not within the limit of nodes, or M is odd or not from 2 to twice the limit of edges
unfoldable pub take_problem_of : ℕ → ℕ → Step NetworkState
take_problem_of nodes arcs =
    require (is_between_of 1 max_nodes nodes && (eqb (arcs % 2) 0 && is_between_of 2 (2 * max_edges) arcs)) BadSizes
    (taken (reading nodes arcs []))

unfoldable pub network_step : NetworkState → NetworkLine → Step NetworkState
network_step s Other = refused NoForm
network_step s Remark = taken s
network_step before_problem (Problem n m) = take_problem_of n m
network_step before_problem (Arc u v w) = refused Misplaced
network_step (reading nodes arcs before) (Problem n m) = refused Misplaced
network_step (reading nodes arcs before) (Arc u v w) = take_arc_of nodes arcs before (arc u v w)

-- at the end: 5 where no `p` line came, 11 where arcs are missing
unfoldable pub network_end : ℕ → NetworkState → Outcome NetworkState
network_end place before_problem = refused_at Misplaced place
network_end place (reading nodes arcs before) = cond (eqb (length before) arcs) (read (reading nodes arcs before)) (refused_at WrongArcs place)

unfoldable pub ended : Outcome NetworkState → ℕ → Outcome NetworkState
ended (read s) place = network_end place s
ended (refused_at fault at) place = refused_at fault at

unfoldable pub network_lines : List (List ℕ) → Outcome NetworkState
network_lines lines = ended (read_lines (λ s line. network_step s (network_line_text line)) 1 before_problem lines) (suc (length lines))

-- every two arcs are one edge, which the first of them names
unfoldable pub every_other : List ArcRead → List ArcRead
every_other [] = []
every_other (a ∷ []) = a ∷ []
every_other (a ∷ b ∷ more) = a ∷ every_other more

unfoldable pub network_of_arcs : ℕ → List ArcRead → Network
network_of_arcs nodes arcs = network nodes (map (λ a. a.from) (every_other arcs)) (map (λ a. a.to) (every_other arcs)) (map (λ a. a.weight) (every_other arcs))

-- the reverse: every arc, followed by the same turned round
unfoldable pub both_ways : List ArcRead → List ArcRead
both_ways [] = []
both_ways (a ∷ more) = a ∷ turned a ∷ both_ways more

-- the arcs of edges that are given by their first nodes, second nodes and lengths
unfoldable pub arcs_of : List ℕ → List ℕ → List ℕ → List ArcRead
arcs_of firsts seconds lengths = both_ways (beside arc firsts seconds lengths)
