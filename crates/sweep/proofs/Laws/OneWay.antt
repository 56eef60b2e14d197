-- A cursor moves one way only, and its moves are what lies between rest and its last position.
use mathlib.Core.List.{List, [], ◌∷◌, map}
use mathlib.Core.Path.{◌≡◌, ◌∙◌, ap}
use Prim.Native.Nat.{ℕ, suc, ◌+◌, ◌≤◌, ◌<◌}
use native.Mathlib.Nat.{le_trans}
use native.Mathlib.Omega.{arith}
use lib.ListN.{length, get_or}
use Rattle.model.specs.Distance.{difference}
use Rattle.model.specs.Location.{Side, at_first, at_second}
use Rattle.sweep.specs.Cursors.{rest, moves, OneWay, fallen, falls, risen, rises}
use Rattle.edge_pair.specs.Offsets.{Ordered}
use Rattle.sweep.specs.Sweeping.{Passes}

pub passes-self : (s : Side) (a : ℕ) → Passes s a a
passes-self at_first a = omega arith
passes-self at_second a = omega arith

pub passes_on : (s : Side) (a b c : ℕ) → Passes s a b → Passes s b c → Passes s a c
passes_on at_first a b c h k = le_trans k h
passes_on at_second a b c h k = le_trans h k

-- the first move, and those after it
begin : (s : Side) (from p : ℕ) (ps : List ℕ) → Passes s from p → OneWay s p ps → OneWay s from (p ∷ ps)
begin at_first from p ps h w = falls h w
begin at_second from p ps h w = rises h w

none_yet : (s : Side) (from : ℕ) → OneWay s from []
none_yet at_first from = fallen
none_yet at_second from = risen

parts : (s : Side) (from p : ℕ) (ps : List ℕ) → OneWay s from (p ∷ ps) → Passes s from p × OneWay s p ps
parts at_first from p ps (falls h w) = (h, w)
parts at_second from p ps (rises h w) = (h, w)

-- what is ordered behind the first element
pub ordered-rest : {x : ℕ} {xs : List ℕ} → Ordered (x ∷ xs) → Ordered xs
ordered-rest o = record { in_order = λ i j h l. o.in_order (suc i) (suc j) (omega arith) (omega arith) }

-- positions that move one way with the offset, at rising offsets, from a start that all of them are one way from
pub one-way-of : (s : Side) (f : ℕ → ℕ) → ((x y : ℕ) → x ≤ y → Passes s (f x) (f y)) → (from : ℕ) (xs : List ℕ) → ((k : ℕ) → k < length xs → Passes s from (f (get_or xs k 0))) → Ordered xs → OneWay s from (map f xs)
one-way-of s f on from [] start o = none_yet s from
one-way-of s f on from (x ∷ xs) start o =
    begin s from (f x) (map f xs) (start 0 (omega arith)) (one-way-of s f on (f x) xs (λ k h. on x (get_or xs k 0) (o.in_order 0 (suc k) (omega arith) (omega arith))) (ordered-rest o))

-- the last of some positions, rest if there are none
unfoldable pub last_of : ℕ → List ℕ → ℕ
last_of from [] = from
last_of from (p ∷ ps) = last_of p ps

last-passes : (s : Side) (from : ℕ) (ps : List ℕ) → OneWay s from ps → Passes s from (last_of from ps)
unfolding last_of
last-passes s from [] w = passes-self s from
last-passes s from (p ∷ ps) w =
    let both = parts s from p ps w in
    passes_on s from p (last_of p ps) both.0 (last-passes s p ps both.1)

-- two moves the same way are one
pub add-up : (s : Side) (a b c : ℕ) → Passes s a b → Passes s b c → difference a b + difference b c ≡ difference a c
unfolding difference
add-up at_first a b c h k = omega arith
add-up at_second a b c h k = omega arith

-- moving one way, a cursor's moves are the difference between its start and its last position
pub moves-one-way : (s : Side) (from : ℕ) (ps : List ℕ) → OneWay s from ps → moves from ps ≡ difference from (last_of from ps)
unfolding moves last_of difference
moves-one-way s from [] w = omega arith
moves-one-way s from (p ∷ ps) w =
    let both = parts s from p ps w in
    ap (λ (n : ℕ). difference from p + n) (moves-one-way s p ps both.1)
    ∙ add-up s from p (last_of p ps) both.0 (last-passes s p ps both.1)

-- so it moves no more than there are events on the second edge
pub moves-few : (s : Side) (ys ps : List ℕ) → OneWay s (rest s ys) ps → last_of (rest s ys) ps ≤ length ys → moves (rest s ys) ps ≤ length ys
unfolding rest difference
moves-few at_first ys ps w h = omega (arith, moves-one-way at_first (length ys) ps w)
moves-few at_second ys ps w h = omega (arith, moves-one-way at_second 0 ps w)

-- where every position is at most n, so is the last
pub last-in : (f : ℕ → ℕ) (n : ℕ) → ((x : ℕ) → f x ≤ n) → (xs : List ℕ) (from : ℕ) → from ≤ n → last_of from (map f xs) ≤ n
unfolding last_of
last-in f n all [] from h = h
last-in f n all (x ∷ xs) from h = last-in f n all xs (f x) (all x)

-- rest is no more than there are
pub rest_in : (s : Side) (ys : List ℕ) → rest s ys ≤ length ys
unfolding rest
rest_in at_first ys = omega arith
rest_in at_second ys = omega arith

-- from rest to any number of them
pub from-rest : (s : Side) (n : ℕ) (ys : List ℕ) → n ≤ length ys → Passes s (rest s ys) n
unfolding rest
from-rest at_first n ys h = h
from-rest at_second n ys h = omega arith
