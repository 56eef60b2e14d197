-- Keys stand for events, and their order for the order of events.
use mathlib.Core.Bool.{Bool, true, false}
use mathlib.Core.List.{List, [], ◌∷◌, ◌++◌, map, map-map}
use mathlib.Core.Path.{◌≡◌, refl, sym, ap, ap₂, ◌∙◌}
use Prim.Native.Nat.{ℕ, suc, ◌+◌, ◌*◌, ◌≤◌, ◌<◌}
use native.Mathlib.Omega.{arith}
use lib.Dec.{eqb}
use lib.ListN.{length, take, drop, get_or, set, drop_of_length-le}
use borrow.Author.Tests.{le-ltb, eqb-true}
use Rattle.std.proofs.lemmas.List.Sorted.{IsNonDecreasingBy-from_sort, IsPermutation-map}
use Rattle.std.specs.List.Sorted.{IsNonDecreasing, IsPermutation, IsSorted}
use Rattle.std.specs.Ordering.{nat_cmp}
use Rattle.model.proofs.Laws.Sorted.{sorted-unique}
use Rattle.model.specs.Events.{Event, event, events, before, sorted, InOrder, empty, one, more}
use Rattle.layout.proofs.Laws.Filling.{next_of, one_more, all-filled}
use Rattle.layout.proofs.Laws.Sorting.{moved-rearranged}
use Rattle.layout.specs.Keys.{key_base, key_of, edge_of, offset_of, event_of}

-- the event of a key that is no lower does not come before
not-before : (m n : ℕ) → m ≤ n → before (event_of n) (event_of m) ≡ false
unfolding before
not-before m n h = go (eqb (edge_of n) (edge_of m)) refl
  where
    go : (c : Bool) → eqb (edge_of n) (edge_of m) ≡ c → before (event_of n) (event_of m) ≡ false
    go true e =
        let same : edge_of n ≡ edge_of m = eqb-true (edge_of n) (edge_of m) e in
        simp (le-ltb (edge_of n) (edge_of m) (omega arith), e, le-ltb (offset_of n) (offset_of m) (omega arith))
    go false e = simp (le-ltb (edge_of n) (edge_of m) (omega arith), e)

-- the events of keys that do not fall are in order
keys-in-order : (ns : List ℕ) → IsNonDecreasing ns → InOrder (map event_of ns)
keys-in-order [] up = empty
keys-in-order (n ∷ []) up = one
keys-in-order (m ∷ n ∷ ns) up =
    more (not-before m n (up 0 1 0 (omega arith) (omega arith))) (keys-in-order (n ∷ ns) (λ i j d p q. up (suc i) (suc j) d (omega arith) (omega arith)))

-- the events of keys that were sorted are the events sorted
sorted-keys : (ns ms : List ℕ) → IsPermutation ns ms → IsSorted nat_cmp ms → map event_of ms ≡ sorted (map event_of ns)
sorted-keys ns ms moved up =
    sorted-unique (map event_of ns) (map event_of ms)
    (moved-rearranged (map event_of ns) (map event_of ms) (IsPermutation-map event_of ns ms moved))
    (keys-in-order ms (IsNonDecreasingBy-from_sort (λ n. n) ms up))

-- an event whose offset fits is that of its key
key-event : (e x : ℕ) → x < key_base → event_of (key_of (event e x)) ≡ event e x
key-event e x h = ap₂ event (omega arith) (omega arith)

pub keys-events : (es xs : List ℕ) → ((i : ℕ) → get_or xs i 0 < key_base) → map event_of (map key_of (events es xs)) ≡ events es xs
unfolding events
keys-events [] xs h = refl
keys-events (e ∷ es) [] h = refl
keys-events (e ∷ es) (x ∷ xs) h = ap₂ (λ (a : Event) (l : List Event). a ∷ l) (key-event e x (h 0)) (keys-events es xs (λ i. h (suc i)))

-- a turn of the loop that fills the keys of events
pub key-turn : (es xs out : List ℕ) (i : ℕ) → i < length es → i < length xs → i < length out
    → map key_of (events es xs) ≡ take i out ++ map key_of (events (drop i es) (drop i xs))
    → map key_of (events es xs) ≡ take (i + 1) (set out i (get_or es i 0 * key_base + get_or xs i 0)) ++ map key_of (events (drop (i + 1) es) (drop (i + 1) xs))
unfolding events
key-turn es xs out i he hx room e =
    one_more (map key_of (events es xs)) out (map key_of (events (drop (i + 1) es) (drop (i + 1) xs))) i (get_or es i 0 * key_base + get_or xs i 0) room
    (e ∙ ap₂ (λ (a b : List ℕ). take i out ++ map key_of (events a b)) (next_of es i he) (next_of xs i hx))

-- its end
pub keys_filled : (es xs out : List ℕ) (i : ℕ) → length out ≤ i → length es ≤ i
    → map key_of (events es xs) ≡ take i out ++ map key_of (events (drop i es) (drop i xs)) → out ≡ map key_of (events es xs)
unfolding events
keys_filled es xs out i h k e =
    all-filled (map key_of (events es xs)) out (map key_of (events (drop i es) (drop i xs))) i h
    (ap (λ (l : List ℕ). map key_of (events l (drop i xs))) (drop_of_length-le es k))
    e

-- taken apart again, the keys of events, sorted, are the sorted events
pub sorted-parts : (f : Event → ℕ) (es xs ns : List ℕ) → ((i : ℕ) → get_or xs i 0 < key_base)
    → IsPermutation (map key_of (events es xs)) ns → IsSorted nat_cmp ns → map (λ n. f (event_of n)) ns ≡ map f (sorted (events es xs))
sorted-parts f es xs ns h moved up =
    sym (map-map f event_of ns)
    ∙ ap (map f) (sorted-keys (map key_of (events es xs)) ns moved up ∙ ap sorted (keys-events es xs h))
