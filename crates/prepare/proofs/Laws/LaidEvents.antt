-- The events that stand in the laid-out lists.
use mathlib.Core.Bool.{Bool, true, false, cond}
use mathlib.Core.List.Memᴰ
use mathlib.Core.List.{List, [], ◌∷◌, map, Memᴰ}
use mathlib.Core.Logic.{⊎_elim}
use mathlib.Core.Path.{◌≡◌, refl, sym, ap, ap₂, ◌∙◌}
use Prim.Native.Nat.{ℕ, zero, suc, ◌+◌, ◌<◌}
use native.Mathlib.Omega.{arith}
use lib.Dec.{eqb}
use lib.ListN.{length, get_or, take, drop, get_or-map}
use lib.Seq.{get_or-take, get_or-drop}
use Rattle.model.proofs.Laws.Checks.{SetsAccepted}
use Rattle.model.proofs.Laws.Lists.{rearranged-back, rearranged-holds}
use Rattle.model.proofs.Laws.PairCount.{count-order-free}
use Rattle.model.proofs.Laws.Sorted.{sorted-rearranged}
use Rattle.model.specs.Envelope.{count_of_set}
use Rattle.model.specs.Events.{Event, event, events, having, sorted, IsEvent, set_size, set_count}
use Rattle.model.specs.Network.{Network}
use Rattle.model.specs.PairCount.{pair_count, event_at}
use Rattle.prepare.specs.Prepared.{laid_out_set, grouped_from, grouped, start_of, Prepared}
use Rattle.prepare.proofs.Laws.Groups.{events-length, events-total, starts-rise, start-next, grouped-length, set-slice}

-- laid out, a set has the same count
pub set-count : (net : Network) (sets : List ℕ) (es : List Event) (t s : ℕ) → pair_count net (laid_out_set sets es s) t ≡ count_of_set net sets es t s
unfolding laid_out_set count_of_set
set-count net sets es t s = sym (count-order-free net (having s sets es) (sorted (having s sets es)) t (sorted-rearranged (having s sets es)))

-- what stands beside a set's number is in the list
having-only : {x : Event} (s : ℕ) (sets : List ℕ) (es : List Event) → Memᴰ x (having s sets es) → Memᴰ x es
unfolding having
having-only s [] es m = absurd (Memᴰ.not-nil m)
having-only s (t ∷ sets) [] m = m
having-only {x} s (t ∷ sets) (e ∷ es) m = go (eqb t s) m (λ l. having-only s sets es l)
  where
    go : (b : Bool) → Memᴰ x (cond b (e ∷ having s sets es) (having s sets es)) → (Memᴰ x (having s sets es) → Memᴰ x es) → Memᴰ x (e ∷ es)
    go true l rest = ⊎_elim Memᴰ.head (λ k. Memᴰ.tail (rest k)) (Memᴰ.cases_cons l)
    go false l rest = Memᴰ.tail (rest l)

-- so is what stands in the sets laid out
grouped-only : {x : Event} (sets : List ℕ) (es : List Event) (s n : ℕ) → Memᴰ x (grouped_from sets es s n) → Memᴰ x es
unfolding grouped_from laid_out_set
grouped-only sets es s zero m = absurd (Memᴰ.not-nil m)
grouped-only sets es s (suc n) m =
    ⊎_elim (λ l. having-only s sets es (rearranged-holds (rearranged-back (sorted-rearranged (having s sets es))) l))
    (grouped-only sets es (suc s) n)
    (Memᴰ.append_cases (sorted (having s sets es)) m)

-- an element of a list is in it
element-in : (d : Event) (l : List Event) (i : ℕ) → i < length l → Memᴰ (get_or l i d) l
element-in d [] i h = absurd (omega arith)
element-in d (x ∷ l) zero h = Memᴰ.head refl
element-in d (x ∷ l) (suc i) h = Memᴰ.tail (element-in d l i (omega arith))

-- an event of the given lists, and its index
pub record Among (es xs : List ℕ) (e x : ℕ) : Type 0 where
  pub index : ℕ
  pub inside : index < length es
  pub edge-is : get_or es index 0 ≡ e
  pub offset-is : get_or xs index 0 ≡ x

event-among : {e : Event} (es xs : List ℕ) → Memᴰ e (events es xs) → Among es xs e.edge e.offset
unfolding events
event-among [] xs m = absurd (Memᴰ.not-nil m)
event-among (a ∷ es) [] m = absurd (Memᴰ.not-nil m)
event-among {e} (a ∷ es) (x ∷ xs) m = ⊎_elim here (λ l. later (event-among es xs l)) (Memᴰ.cases_cons m)
  where
    here : e ≡ event a x → Among (a ∷ es) (x ∷ xs) e.edge e.offset
    here p = record { index = 0; inside = omega arith; edge-is = ap (λ (f : Event). f.edge) (sym p); offset-is = ap (λ (f : Event). f.offset) (sym p) }

    later : Among es xs e.edge e.offset → Among (a ∷ es) (x ∷ xs) e.edge e.offset
    later b = record { index = suc b.index; inside = omega (arith, b.inside); edge-is = b.edge-is; offset-is = b.offset-is }

module _ {net : Network} {sets es xs ts edges offsets bounds set_runs_of table : List ℕ} (accepted : SetsAccepted net sets es xs)
    (p : Prepared net sets es xs ts edges offsets bounds set_runs_of table) where
  -- what stands at a place of the two lists, with f the edge or the offset
  part_at : (f : Event → ℕ) → f (event 0 0) ≡ 0 → (laid : List ℕ) → take (length es) laid ≡ map f (grouped sets (events es xs)) → (k : ℕ) → k < length es
      → f (event_at (grouped sets (events es xs)) k) ≡ get_or laid k 0
  part_at f e laid whole k h =
      sym (get_or-map f (grouped sets (events es xs)) k (event 0 0))
      ∙ ap (λ (d : ℕ). get_or (map f (grouped sets (events es xs))) k d) e
      ∙ ap (λ (l : List ℕ). get_or l k 0) (sym whole)
      ∙ get_or-take (length es) laid k 0 h

  pub laid-event : (k : ℕ) → k < length es → event_at (grouped sets (events es xs)) k ≡ event (get_or edges k 0) (get_or offsets k 0)
  laid-event k h = ap₂ event (part_at (λ e. e.edge) refl edges p.edges_are k h) (part_at (λ e. e.offset) refl offsets p.offsets_are k h)

  pub events-long : length sets ≡ length (events es xs)
  events-long = accepted.sets_length ∙ sym (events-length es xs accepted.are-events.same_length)

  -- the events of set s stand from its start on
  pub set-event : (s i : ℕ) → s < set_count sets → i < set_size sets s
      → event_at (laid_out_set sets (events es xs) s) i ≡ event (get_or edges (start_of sets s + i) 0) (get_or offsets (start_of sets s + i) 0)
  set-event s i hs hi =
      let inside : start_of sets s + i < length es = omega (arith, start-next sets s, starts-rise sets (suc s) (set_count sets) hs, events-total sets es accepted.sets_length) in
      ap (λ (l : List Event). event_at l i) (sym (set-slice sets (events es xs) events-long s hs))
      ∙ get_or-take (set_size sets s) (drop (start_of sets s) (grouped sets (events es xs))) i (event 0 0) hi
      ∙ get_or-drop (start_of sets s) (grouped sets (events es xs)) i (event 0 0)
      ∙ laid-event (start_of sets s + i) inside

  grouped-long : length (grouped sets (events es xs)) ≡ length es
  unfolding grouped
  grouped-long = grouped-length sets (events es xs) events-long (set_count sets) ∙ events-total sets es accepted.sets_length

  -- every laid-out event is one of those given
  pub laid-among : (k : ℕ) → k < length es → Among es xs (get_or edges k 0) (get_or offsets k 0)
  unfolding grouped
  laid-among k h =
      event-among es xs
      (grouped-only sets (events es xs) 0 (set_count sets)
      (Memᴰ.cast (sym (laid-event k h)) (element-in (event 0 0) (grouped sets (events es xs)) k (rw grouped-long h))))

  -- so it lies on the network
  pub laid-is-event : (k : ℕ) → k < length es → IsEvent net (event (get_or edges k 0) (get_or offsets k 0))
  laid-is-event k h =
      let a = laid-among k h in
      rw (a.edge-is, a.offset-is) at (accepted.are-events.event-at a.index a.inside)
