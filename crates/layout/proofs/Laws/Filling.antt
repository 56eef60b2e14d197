-- Lists that a loop fills from the front: what is to stand there is the filled front and what is still to come.
use mathlib.Core.List.{List, [], ◌∷◌, ◌++◌, map, append-nil}
use mathlib.Core.Path.{◌≡◌, sym, ap, ◌∙◌}
use Prim.Native.Nat.{ℕ, ◌+◌, ◌≤◌, ◌<◌}
use native.Mathlib.Numerals.{add-one}
use lib.ListN.{length, take, drop, get_or, set, drop_of_length-le}
use lib.Seq.{take-suc-set, append_snoc, take_all, drop-cons}

-- what is left at an index is the element there and what is left behind it
pub next_of : (l : List ℕ) (i : ℕ) → i < length l → drop i l ≡ get_or l i 0 ∷ drop (i + 1) l
next_of l i h = rw add-one (drop-cons l i 0 h)

-- the next element stored
pub one_more : (whole out rest : List ℕ) (i v : ℕ) → i < length out → whole ≡ take i out ++ (v ∷ rest) → whole ≡ take (i + 1) (set out i v) ++ rest
one_more whole out rest i v h e = e ∙ rw (add-one, take-suc-set out i v h, append_snoc)

-- nothing more to come
pub all-filled : (whole out rest : List ℕ) (i : ℕ) → length out ≤ i → rest ≡ [] → whole ≡ take i out ++ rest → out ≡ whole
all-filled whole out rest i h ended e = sym (e ∙ rw (ended, append-nil, take_all i out h))

-- a turn of a loop that stores f of each element
pub map-turn : (f : ℕ → ℕ) (l out : List ℕ) (i : ℕ) → i < length l → i < length out → map f l ≡ take i out ++ map f (drop i l)
    → map f l ≡ take (i + 1) (set out i (f (get_or l i 0))) ++ map f (drop (i + 1) l)
map-turn f l out i inside room e =
    one_more (map f l) out (map f (drop (i + 1) l)) i (f (get_or l i 0)) room
    (e ∙ ap (λ (r : List ℕ). take i out ++ map f r) (next_of l i inside))

-- its end
pub map-filled : (f : ℕ → ℕ) (l out : List ℕ) (i : ℕ) → length out ≤ i → length l ≤ i → map f l ≡ take i out ++ map f (drop i l) → out ≡ map f l
map-filled f l out i h k e = all-filled (map f l) out (map f (drop i l)) i h (ap (map f) (drop_of_length-le l k)) e
