-- The keys and the slots of the nodes that wait, from the start on through offers and picks.
use mathlib.Core.List.{List}
use mathlib.Core.Logic.{inl, inr, ◌≢◌}
use mathlib.Core.Path.{◌≡◌, ◌∙◌, sym, ap}
use Prim.Native.Nat.{ℕ, suc, ◌+◌, ◌-◌, ◌≤◌, ◌<◌}
use native.Mathlib.Omega.{arith}
use lib.ListN.{length, get_or, set, length-set}
use lib.Seq.{get_or-set_same, get_or-set_other}
use Rattle.distance.specs.Keys.{key_of, Keyed, Removed}
use Rattle.distance.specs.Search.{InFront, at}
use Rattle.distance.proofs.Lists.{AfterStore, set_cases}

-- the source waits at the first place
pub start-keyed : {nodes : ℕ} (dist front keys slots : List ℕ) (source : ℕ) → nodes ≤ length keys → nodes < length slots → source < length dist → source < length slots → 0 < length front → 0 < length keys → Keyed nodes (set dist source 1) (set front 0 source) (set keys 0 (key_of 1 0)) (set slots source 0) 1
start-keyed dist front keys slots source keys_room slots_room in_dist in_slots in-front in-keys =
    record {
      keys_room = rw length-set keys_room;
      slots_room = rw length-set slots_room;
      key_at = λ k h. rw (first k h) key;
      slot_at = λ k h. rw (first k h) slot;
    }
  where
    first : (k : ℕ) → k < 1 → k ≡ 0
    first k h = omega arith

    key : get_or (set keys 0 (key_of 1 0)) 0 0 ≡ key_of (get_or (set dist source 1) (get_or (set front 0 source) 0 0) 0) 0
    key = get_or-set_same keys 0 (key_of 1 0) 0 in-keys ∙ rw (get_or-set_same front 0 source 0 in-front, get_or-set_same dist source 1 0 in_dist)

    slot : get_or (set slots source 0) (get_or (set front 0 source) 0 0) 0 ≡ 0
    slot = rw (get_or-set_same front 0 source 0 in-front, get_or-set_same slots source 0 0 in_slots)

module _ {nodes : ℕ} {dist front keys slots : List ℕ} {len : ℕ} (q : Keyed nodes dist front keys slots len) where
  -- a node not reached yet takes the place behind the last
  pub entered-keyed : (w d : ℕ) → ((k : ℕ) → k < len → 1 ≤ get_or dist (get_or front k 0) 0) → get_or dist w 0 ≡ 0 → w < length dist → w < length slots → len < length front → len < length keys → Keyed nodes (set dist w d) (set front len w) (set keys len (key_of d len)) (set slots w len) (len + 1)
  entered-keyed w d reached none in_dist in_slots in-front in-keys =
      record {
        keys_room = rw length-set q.keys_room;
        slots_room = rw length-set q.slots_room;
        key_at = λ k h. key k h (set_cases front len w k in-front) (set_cases keys len (key_of d len) k in-keys);
        slot_at = λ k h. slot k h (set_cases front len w k in-front);
      }
    where
      other : (k : ℕ) → k < len → get_or front k 0 ≢ w
      other k h e = omega (arith, reached k h, ap (λ (u : ℕ). get_or dist u 0) e)

      key : (k : ℕ) → k < len + 1 → AfterStore front len w k → AfterStore keys len (key_of d len) k → get_or (set keys len (key_of d len)) k 0 ≡ key_of (get_or (set dist w d) (get_or (set front len w) k 0) 0) k
      key k h (inl (e, p)) (inl (e', p')) = rw (p, get_or-set_same dist w d 0 in_dist) (omega arith)
      key k h (inl (e, p)) (inr (e', p')) = absurd (e' e)
      key k h (inr (e, p)) (inl (e', p')) = absurd (e e')
      key k h (inr (e, p)) (inr (e', p')) = p' ∙ q.key_at k (omega arith) ∙ rw (p, get_or-set_other dist w (get_or front k 0) d 0 (other k (omega arith)))

      slot : (k : ℕ) → k < len + 1 → AfterStore front len w k → get_or (set slots w len) (get_or (set front len w) k 0) 0 ≡ k
      slot k h (inl (e, p)) = rw (p, get_or-set_same slots w len 0 in_slots) (sym e)
      slot k h (inr (e, p)) = rw (p, get_or-set_other slots w (get_or front k 0) len 0 (other k (omega arith))) (q.slot_at k (omega arith))

  -- the key at a waiting node's slot falls with its entry
  pub lowered-keyed : (w d : ℕ) → InFront front len w → w < length dist → len ≤ length keys → Keyed nodes (set dist w d) front (set keys (get_or slots w 0) (key_of d (get_or slots w 0))) slots len
  lowered-keyed w d (at p p-in is) in_dist in-keys =
      record {
        keys_room = rw length-set q.keys_room;
        slots_room = q.slots_room;
        key_at = λ k h. rw there (key k h (set_cases keys p (key_of d p) k (omega arith)));
        slot_at = q.slot_at;
      }
    where
      there : get_or slots w 0 ≡ p
      there = ap (λ (u : ℕ). get_or slots u 0) (sym is) ∙ q.slot_at p p-in

      other : (k : ℕ) → k < len → k ≢ p → get_or front k 0 ≢ w
      other k h apart e = apart (sym (q.slot_at k h) ∙ ap (λ (u : ℕ). get_or slots u 0) e ∙ there)

      key : (k : ℕ) → k < len → AfterStore keys p (key_of d p) k → get_or (set keys p (key_of d p)) k 0 ≡ key_of (get_or (set dist w d) (get_or front k 0) 0) k
      key k h (inl (e, s)) = rw (e, is, get_or-set_same dist w d 0 in_dist) (get_or-set_same keys p (key_of d p) 0 (omega arith))
      key k h (inr (e, s)) = s ∙ q.key_at k h ∙ rw (get_or-set_other dist w (get_or front k 0) d 0 (other k h e))

  -- a pick: the last moves to the place of the one picked
  pub removed-keyed : {front' keys' slots' : List ℕ} (l k : ℕ) → Removed front keys slots l k front' keys' slots' → len ≡ suc l → k < len → len ≤ length front → len ≤ length keys → get_or front l 0 < length slots → Keyed nodes dist front' keys' slots' l
  removed-keyed {front'} {keys'} {slots'} l k x is h in-front in-keys in_slots = rw (x.front_is, x.keys_is, x.slots_is) moved
    where
      last-key : get_or keys l 0 ≡ key_of (get_or dist (get_or front l 0) 0) l
      last-key = q.key_at l (omega arith)

      other : (j : ℕ) → j < l → get_or front j 0 ≢ get_or front l 0
      other j j_in e = omega (arith, q.slot_at j (omega arith), q.slot_at l (omega arith), ap (λ (u : ℕ). get_or slots u 0) e)

      key : (j : ℕ) → j < l → AfterStore front k (get_or front l 0) j → AfterStore keys k (get_or keys l 0 - (l - k)) j → get_or (set keys k (get_or keys l 0 - (l - k))) j 0 ≡ key_of (get_or dist (get_or (set front k (get_or front l 0)) j 0) 0) j
      key j j_in (inl (e, p)) (inl (e', p')) = rw p (omega (arith, last-key))
      key j j_in (inl (e, p)) (inr (e', p')) = absurd (e' e)
      key j j_in (inr (e, p)) (inl (e', p')) = absurd (e e')
      key j j_in (inr (e, p)) (inr (e', p')) = p' ∙ q.key_at j (omega arith) ∙ rw p

      slot : (j : ℕ) → j < l → AfterStore front k (get_or front l 0) j → get_or (set slots (get_or front l 0) k) (get_or (set front k (get_or front l 0)) j 0) 0 ≡ j
      slot j j_in (inl (e, p)) = rw (p, get_or-set_same slots (get_or front l 0) k 0 in_slots) (sym e)
      slot j j_in (inr (e, p)) = rw (p, get_or-set_other slots (get_or front l 0) (get_or front j 0) k 0 (other j j_in)) (q.slot_at j (omega arith))

      moved : Keyed nodes dist (set front k (get_or front l 0)) (set keys k (get_or keys l 0 - (l - k))) (set slots (get_or front l 0) k) l
      moved =
          record {
            keys_room = rw length-set q.keys_room;
            slots_room = rw length-set q.slots_room;
            key_at = λ j j_in. key j j_in (set_cases front k (get_or front l 0) j (omega arith)) (set_cases keys k (get_or keys l 0 - (l - k)) j (omega arith));
            slot_at = λ j j_in. slot j j_in (set_cases front k (get_or front l 0) j (omega arith));
          }
