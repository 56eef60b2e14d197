-- The texts of given lists within the limits, byte by byte (01, Texts): a number is its decimal digits, and every line has its end, which
-- the last one may lack.
use Rattle.std.specs.Prelude.{Bool, true, cond, ◌&&◌, not, List, [], ◌∷◌, ◌++◌, map, ◌≡◌, ℕ, ◌*◌, eqb}
use Rattle.model.specs.Network.{Network, edges}
use Rattle.text.specs.Digits.{digits}
use Rattle.text.specs.EventText.{Row, event_header}
use Rattle.text.specs.Fields.{comma, space}
use Rattle.text.specs.Lines.{line_feed, line_end_of}
use Rattle.text.specs.NetworkText.{remark_mark, problem_mark, arc_mark, ArcRead, arcs_of}
use Rattle.text.specs.ThresholdText.{threshold_header}

-- fields with a separator between them
unfoldable pub parted : ℕ → List (List ℕ) → List ℕ
parted sep [] = []
parted sep (f ∷ []) = f
parted sep (f ∷ g ∷ more) = f ++ (sep ∷ parted sep (g ∷ more))

-- numbers with a separator between them
unfoldable pub numbered : ℕ → List ℕ → List ℕ
numbered sep ns = parted sep (map digits ns)

-- lines with a line end behind each; closed says whether the last one has it too
unfoldable pub joined : List ℕ → Bool → List (List ℕ) → List ℕ
joined end closed [] = []
joined end closed (line ∷ []) = line ++ cond closed end []
joined end closed (line ∷ next ∷ more) = line ++ (end ++ joined end closed (next ∷ more))

-- thresholds: the header, then a number to a line
unfoldable pub threshold_text : Bool → List ℕ → List ℕ
threshold_text closed ts = joined line_end_of closed (threshold_header ∷ map digits ts)

-- a row `set,leg,offset`
unfoldable pub row_line : Row → List ℕ
row_line r = numbered comma (r.set ∷ r.edge ∷ r.offset ∷ [])

-- reports: the header, then the rows
unfoldable pub event_text : Bool → List Row → List ℕ
event_text closed rows = joined line_end_of closed (event_header ∷ map row_line rows)

-- `p sp N M`
unfoldable pub problem_line : ℕ → ℕ → List ℕ
problem_line nodes arcs = problem_mark ++ numbered space (nodes ∷ arcs ∷ [])

-- `a U V W`
unfoldable pub arc_line : ArcRead → List ℕ
arc_line a = arc_mark ++ numbered space (a.from ∷ a.to ∷ a.weight ∷ [])

-- the arcs of a network
unfoldable pub network_arcs : Network → List ArcRead
network_arcs net = arcs_of net.firsts net.seconds net.lengths

-- a network's lines: the `p` line, then its arcs
unfoldable pub network_text_lines : Network → List (List ℕ)
network_text_lines net = problem_line net.nodes (2 * edges net) ∷ map arc_line (network_arcs net)

-- the line does not contain the byte
unfoldable pub lacks : ℕ → List ℕ → Bool
lacks x [] = true
lacks x (b ∷ bs) = not (eqb b x) && lacks x bs

-- a remark: `c` alone, or `c` and a space and anything but a line feed
pub data IsRemark : List ℕ → Type 0 where
  bare : IsRemark (remark_mark ∷ [])
  saying : {bytes : List ℕ} → lacks line_feed bytes ≡ true → IsRemark (remark_mark ∷ space ∷ bytes)

-- the second list of lines is the first one with remarks put in anywhere
pub data WithRemarks : List (List ℕ) → List (List ℕ) → Type 0 where
  no_more : WithRemarks [] []
  kept : {line : List ℕ} {lines all : List (List ℕ)} → WithRemarks lines all → WithRemarks (line ∷ lines) (line ∷ all)
  put_in : {remark : List ℕ} {lines all : List (List ℕ)} → IsRemark remark → WithRemarks lines all → WithRemarks lines (remark ∷ all)

-- The texts of lists within the limits, in every layout that 01 permits. Of a network: its lines with remarks anywhere among them, each line ended
-- by a line feed, the last one ended or not.
pub record IsNetworkText (net : Network) (bytes : List ℕ) : Type 0 where
  pub lines : List (List ℕ)
  pub among : WithRemarks (network_text_lines net) lines
  pub closed : Bool
  pub is : bytes ≡ joined (line_feed ∷ []) closed lines

-- of reports and of thresholds: the last line ended or not
pub record IsEventText (rows : List Row) (bytes : List ℕ) : Type 0 where
  pub closed : Bool
  pub is : bytes ≡ event_text closed rows

pub record IsThresholdText (ts bytes : List ℕ) : Type 0 where
  pub closed : Bool
  pub is : bytes ≡ threshold_text closed ts
