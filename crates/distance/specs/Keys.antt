-- Keys of the nodes that wait, and the places of these nodes in the front.
use Rattle.std.specs.Prelude.{List, ◌≡◌, ℕ, ◌+◌, ◌*◌, ◌-◌, ◌<◌, ◌≤◌, length, get_or, set}

-- an entry and a place as one number: where two entries differ, the lesser entry has the lesser key
abbrev pub key_of : ℕ → ℕ → ℕ
key_of entry place = entry * 4294967296 + place

-- key is one of the first len, and no greater than any of those from a place on to another
pub record Least (keys : List ℕ) (len from to key : ℕ) : Type 0 where
  pub place : ℕ
  pub inside : place < len
  pub is : get_or keys place 0 ≡ key
  pub least : (j : ℕ) → from ≤ j → j < to → key ≤ get_or keys j 0

-- the keys of the first len nodes of the front are those of their entries, and the slots of these nodes are their places
pub record Keyed (nodes : ℕ) (dist front keys slots : List ℕ) (len : ℕ) : Type 0 where
  pub keys_room : nodes ≤ length keys
  pub slots_room : nodes < length slots
  pub key_at : (k : ℕ) → k < len → get_or keys k 0 ≡ key_of (get_or dist (get_or front k 0) 0) k
  pub slot_at : (k : ℕ) → k < len → get_or slots (get_or front k 0) 0 ≡ k

-- the node at the place k is out of the front, and the one at l, the last, is there instead
pub record Removed (front keys slots : List ℕ) (l k : ℕ) (front' keys' slots' : List ℕ) : Type 0 where
  pub front_is : front' ≡ set front k (get_or front l 0)
  pub keys_is : keys' ≡ set keys k (get_or keys l 0 - (l - k))
  pub slots_is : slots' ≡ set slots (get_or front l 0) k
