-- Edges as arcs: the edge at index i is arc 2 i from its first node to its second, and arc 2 i + 1 back.
use Rattle.std.specs.Prelude.{cond, List, ◌≡◌, ℕ, zero, suc, ◌/◌, ◌%◌, ◌<◌, ◌≤◌, eqb, length, get_or}

-- where arc a begins; with the lists swapped, where it ends
unfoldable pub tail : List ℕ → List ℕ → ℕ → ℕ
tail firsts seconds a = cond (eqb (a % 2) 0) (get_or firsts (a / 2) 0) (get_or seconds (a / 2) 0)

-- one more than the greatest arc below n that begins at v, 0 if there is none
unfoldable pub last_arc : List ℕ → List ℕ → ℕ → ℕ → ℕ
last_arc firsts seconds v zero = 0
last_arc firsts seconds v (suc n) = cond (eqb (tail firsts seconds n) v) (suc n) (last_arc firsts seconds v n)

-- the arcs of each node as a chain: last leads to a node's last arc, next from an arc to the one before it
pub record Linked (firsts seconds last next : List ℕ) (nodes arcs : ℕ) : Type 0 where
  pub last_length : nodes < length last
  pub next_length : arcs ≤ length next
  pub last_is : (v : ℕ) → v ≤ nodes → get_or last v 0 ≡ last_arc firsts seconds v arcs
  pub next_is : (a : ℕ) → a < arcs → get_or next a 0 ≡ last_arc firsts seconds (tail firsts seconds a) a
