-- Events (01: reports), the events of one set, and the order in which they are laid out.
use Rattle.std.specs.Prelude.{Bool, false, cond, ◌&&◌, ◌||◌, List, [], ◌∷◌, ◌≡◌, ℕ, suc, pred, ◌≤◌, max, eqb, ltb}
use Rattle.model.specs.Network.{Network, edges, size}
use Rattle.model.specs.Location.{Location, location_of}
use Rattle.model.specs.Counting.{count_if}

-- an event: the number of its edge, from 1, and the offset from the edge's first node
pub record Event : Type 0 where
  pub edge : ℕ
  pub offset : ℕ

abbrev pub event : ℕ → ℕ → Event
event edge offset = record { edge = edge; offset = offset }

-- the events of a list of edges and a list of offsets
unfoldable pub events : List ℕ → List ℕ → List Event
events [] offsets = []
events (e ∷ es) [] = []
events (e ∷ es) (x ∷ xs) = event e x ∷ events es xs

-- where an event lies
unfoldable pub event_location : Network → Event → Location
event_location net e = location_of net (pred e.edge) e.offset

-- the event's edge is one of the network's, and its offset is not beyond it
pub record IsEvent (net : Network) (e : Event) : Type 0 where
  pub from_one : 1 ≤ e.edge
  pub to_edges : e.edge ≤ edges net
  pub on_edge : e.offset ≤ size net (pred e.edge)

-- of a list beside a list of keys, what stands beside the key k, in order: with set numbers for keys the events of a set,
-- with edge numbers for keys what lies on an edge
unfoldable pub having : {A : Type 0} → ℕ → List ℕ → List A → List A
having k [] xs = []
having k (t ∷ ts) [] = []
having k (t ∷ ts) (x ∷ xs) = cond (eqb t k) (x ∷ having k ts xs) (having k ts xs)

-- how many events set s has
unfoldable pub set_size : List ℕ → ℕ → ℕ
set_size sets s = count_if (λ t. eqb t s) sets

-- the greatest set number present, 0 if there is none
unfoldable pub greatest_set_of : List ℕ → ℕ
greatest_set_of [] = 0
greatest_set_of (t ∷ ts) = max t (greatest_set_of ts)

-- the number of sets: one more than the greatest number present
unfoldable pub set_count : List ℕ → ℕ
set_count sets = suc (greatest_set_of sets)

-- e comes before f: on a lower edge, or on the same edge at a lower offset
unfoldable pub before : Event → Event → Bool
before e f = ltb e.edge f.edge || (eqb e.edge f.edge && ltb e.offset f.offset)

-- e put in front of the first element of a list that does not come before it
unfoldable pub insert : Event → List Event → List Event
insert e [] = e ∷ []
insert e (f ∷ fs) = cond (before f e) (f ∷ insert e fs) (e ∷ f ∷ fs)

-- 01: the events laid out, rising by edge and then by offset, repeats kept
unfoldable pub sorted : List Event → List Event
sorted [] = []
sorted (e ∷ es) = insert e (sorted es)

-- no element of the list comes before the one in front of it
pub data InOrder : List Event → Type 0 where
  empty : InOrder []
  one : {e : Event} → InOrder (e ∷ [])
  more : {e f : Event} {es : List Event} → before f e ≡ false → InOrder (f ∷ es) → InOrder (e ∷ f ∷ es)
