-- An edge as seen from the centre.
use Rattle.std.specs.Prelude.{Bool, ◌&&◌, ◌≡◌, ℕ, ◌≤◌, leb, ltb}
use Rattle.model.specs.Distance.{Distance, exactly, decode}
use Rattle.perimeter.specs.Reach.{inside_distance, insides_at, farthest}
use Rattle.perimeter.specs.declared.edges.Sight.{Sight}

-- how far an offset of the edge lies
unfoldable pub lies : Sight → ℕ → Distance
lies s y = inside_distance (decode s.end1) (decode s.end2) s.length s.own s.offset y

-- strictly inside the edge and at exactly the radius
unfoldable pub met : Sight → ℕ → Bool
met s y = (leb 1 y && ltb y s.length) && exactly (lies s y) s.radius

-- how many such offsets there are
unfoldable pub met_count : Sight → ℕ
met_count s = insides_at (decode s.end1) (decode s.end2) s.length s.own s.offset s.radius

-- the numbers are small enough for sums
pub record InSight (s : Sight) : Type 0 where
  pub end1_small : s.end1 ≤ farthest
  pub end2_small : s.end2 ≤ farthest
  pub length_small : s.length ≤ farthest
  pub offset_small : s.offset ≤ farthest
  pub radius_small : s.radius ≤ farthest

-- a count of the offsets met
pub record MetCounted (s : Sight) (r : ℕ) : Type 0 where
  pub is : r ≡ met_count s
  pub few : r ≤ 4
