-- Why the nearest waiting node is exact: no walk reaches a node without passing one that waits, or the node is settled.
use mathlib.Core.List.{List}
use mathlib.Core.Logic.{◌⊎◌, inl, inr}
use mathlib.Core.Path.{◌≡◌, ap, subst}
use Prim.Native.Nat.{ℕ, suc, ◌+◌, ◌≤◌, ◌<◌, ◌/◌}
use native.Mathlib.Omega.{arith}
use lib.ListN.{get_or}
use Rattle.model.specs.Network.{Network, size}
use Rattle.model.specs.Walk.{Walk, here, onward}
use Rattle.distance.specs.Search.{at, Settled, Status, waiting, settled, followed, State}
use Rattle.distance.proofs.Ways.{Arc, arc-of}

-- some waiting node's entry is at most n metres
pub data Nearer (dist front : List ℕ) (len n : ℕ) : Type 0 where
  nearer : (k : ℕ) → k < len → get_or dist (get_or front k 0) 0 ≤ suc n → Nearer dist front len n

-- 0 is no node, so between two picks a node that has been reached waits or is settled
pub waits-or-settled : {net : Network} {source bound : ℕ} {dist front : List ℕ} {len picked : ℕ} (v n : ℕ) → State net source bound dist front len picked 0 → 1 ≤ get_or dist v 0 → get_or dist v 0 ≤ suc n → Settled net source bound dist v 0 ⊎ Nearer dist front len n
waits-or-settled {net} {source} {bound} {dist} {front} {len} v n s reached near = go (s.status v reached)
  where
    go : Status net source bound dist front len 0 v → Settled net source bound dist v 0 ⊎ Nearer dist front len n
    go (waiting (at k h e)) = inr (nearer k h (rw e near))
    go (settled x) = inl x
    go (followed e) = absurd (zero-is-none v e (s.only_nodes v reached).from_one)
      where
        zero-is-none : (v : ℕ) → v ≡ 0 → 1 ≤ v → ⊥
        zero-is-none v e h = omega arith

-- along any walk from the source
pub no-shorter : {net : Network} {source bound : ℕ} {dist front : List ℕ} {len picked : ℕ} {v n : ℕ} → State net source bound dist front len picked 0 → Walk net source v n → Settled net source bound dist v 0 ⊎ Nearer dist front len n
no-shorter {source = source} s here = waits-or-settled source 0 s (omega (arith, s.from_source)) (omega (arith, s.from_source))
no-shorter {net} {source} {bound} {dist} {front} {len} s (onward {v = u} {w = w} {n = n} i h before j) = go (no-shorter s before)
  where
    go : Settled net source bound dist u 0 ⊎ Nearer dist front len n → Settled net source bound dist w 0 ⊎ Nearer dist front len (n + size net i)
    go (inr (nearer k l e)) = inr (nearer k l (omega arith))
    go (inl x) = along (arc-of net i u w h j)
      where
        along : Arc net i u w → Settled net source bound dist w 0 ⊎ Nearer dist front len (n + size net i)
        along arc =
            let f = x.followed arc.a (omega arith) arc.small arc.begins in
            waits-or-settled w (n + size net i) s
            (subst (λ (k : ℕ). 1 ≤ get_or dist k 0) arc.finishes f.reached)
            (omega (arith, x.exact n before, subst (λ (k : ℕ). get_or dist k 0 ≤ get_or dist u 0 + size net (arc.a / 2)) arc.finishes f.near, ap (size net) arc.edge))
