-- The events of one set as they stand in the laid-out lists.
use mathlib.Core.Bool.{Bool, true, false}
use mathlib.Core.List.{List, [], ◌∷◌, map}
use mathlib.Core.Path.{◌≡◌, refl, sym, ap, ap₂, ◌∙◌}
use Prim.Native.Nat.{ℕ, zero, suc, ◌+◌, ◌-◌, ◌≤◌, ◌<◌}
use native.Mathlib.Omega.{arith}
use borrow.Author.Tests.{leb-true, leb-false, ne_eqb}
use lib.Dec.{leb}
use lib.ListN.{length, get_or, take, drop, length-map}
use Rattle.model.proofs.Laws.Checks.{SetsAccepted}
use Rattle.model.proofs.Laws.Pieces.{part}
use Rattle.model.proofs.Laws.Sorted.{sorted-in-order}
use Rattle.model.specs.Counting.{count_if, one_if}
use Rattle.model.specs.Events.{Event, events, having, InOrder, set_size, greatest_set_of, set_count}
use Rattle.model.specs.Network.{Network}
use Rattle.prepare.proofs.Laws.Groups.{laid-out-length, start-next, starts-rise, events-total}
use Rattle.prepare.proofs.Laws.LaidEvents.{events-long}
use Rattle.prepare.proofs.Laws.RunEvents.{part-front, set-part, zipped}
use Rattle.prepare.specs.Prepared.{Prepared, laid_out_set, grouped}
use Rattle.pair_counts.specs.Asked.{SweepAsked, bound_of, set_part}
use Rattle.pair_counts.specs.Claim.{set_edges, set_offsets}

-- a part of what a list's elements are made into
take-map : {A B : Type 0} (f : A → B) (n : ℕ) (l : List A) → take n (map f l) ≡ map f (take n l)
take-map f zero l = refl
take-map f (suc n) [] = refl
take-map {A} {B} f (suc n) (x ∷ l) = ap (λ (r : List B). f x ∷ r) (take-map f n l)

drop-map : {A B : Type 0} (f : A → B) (n : ℕ) (l : List A) → drop n (map f l) ≡ map f (drop n l)
drop-map f zero l = refl
drop-map f (suc n) [] = refl
drop-map f (suc n) (x ∷ l) = drop-map f n l

-- a set above the greatest has no events
none_above : (sets : List ℕ) (s : ℕ) → greatest_set_of sets < s → set_size sets s ≡ 0
unfolding set_size count_if greatest_set_of one_if
none_above [] s h = refl
none_above (t ∷ sets) s h = rw (ne_eqb t s (λ e. omega arith)) (omega (arith, none_above sets s (omega arith)))

empty-list : {A : Type 0} (l : List A) → length l ≡ 0 → l ≡ []
empty-list [] e = refl
empty-list (x ∷ l) e = absurd (omega arith)

-- where a set begins, or that there is no such set
pub no_bound : (exists : Bool) (bounds : List ℕ) (k : ℕ) (set_runs_of : List ℕ) → exists ≡ false → 0 ≡ bound_of set_runs_of bounds exists k
unfolding bound_of
no_bound exists bounds k set_runs_of e = rw e

pub has-bound : (exists : Bool) (bounds : List ℕ) {run r : ℕ} (k : ℕ) (set_runs_of : List ℕ) → exists ≡ true → run ≡ get_or set_runs_of k 0 → r ≡ get_or bounds run 0 → r ≡ bound_of set_runs_of bounds exists k
unfolding bound_of
has-bound exists bounds k set_runs_of e f g = rw e (g ∙ ap (λ (n : ℕ). get_or bounds n 0) f)

-- the set's part of the laid-out lists, by the greatest set number and its two bounds
module _ {sets ts edges offsets bounds set_runs_of : List ℕ} {s start end g : ℕ} (w : SweepAsked sets ts edges offsets bounds set_runs_of s) where
  pub asked-inside : g ≡ greatest_set_of sets → start ≡ bound_of set_runs_of bounds (leb s g) s → end ≡ bound_of set_runs_of bounds (leb s g) (s + 1) → (start ≤ end) × (end ≤ length edges) × (end ≤ length offsets)
  asked-inside is from to =
      let from' : start ≡ bound_of set_runs_of bounds (leb s (greatest_set_of sets)) s = rw is at from in
      let to' : end ≡ bound_of set_runs_of bounds (leb s (greatest_set_of sets)) (s + 1) = rw is at to in
      (rw (from', to') w.in_order, rw to' w.in_edges, rw to' w.in_offsets)

  pub part-is : g ≡ greatest_set_of sets → start ≡ bound_of set_runs_of bounds (leb s g) s → end ≡ bound_of set_runs_of bounds (leb s g) (s + 1) → (l : List ℕ) → take (end - start) (drop start l) ≡ set_part sets set_runs_of bounds s l
  unfolding set_part
  part-is is from to l =
      let from' : start ≡ bound_of set_runs_of bounds (leb s (greatest_set_of sets)) s = rw is at from in
      let to' : end ≡ bound_of set_runs_of bounds (leb s (greatest_set_of sets)) (s + 1) = rw is at to in
      ap₂ (λ (a b : ℕ). take (b - a) (drop a l)) from' to'

-- the set laid out, as two lists
module _ (sets es xs : List ℕ) (s : ℕ) where
  pub set-events : events (set_edges sets es xs s) (set_offsets sets es xs s) ≡ laid_out_set sets (events es xs) s
  unfolding set_edges set_offsets
  set-events = zipped (laid_out_set sets (events es xs) s)

  pub set-in-order : InOrder (events (set_edges sets es xs s) (set_offsets sets es xs s))
  set-in-order = rw set-events in_order
    where
      in_order : InOrder (laid_out_set sets (events es xs) s)
      in_order = unfold laid_out_set in sorted-in-order (having s sets (events es xs))

  pub set-same-length : length (set_edges sets es xs s) ≡ length (set_offsets sets es xs s)
  unfolding set_edges set_offsets
  set-same-length = simp length-map

module _ {net : Network} {sets es xs ts edges offsets bounds set_runs_of table : List ℕ} (accepted : SetsAccepted net sets es xs)
    (p : Prepared net sets es xs ts edges offsets bounds set_runs_of table) (s : ℕ) where
  abbrev from : Bool → ℕ
  from exists = bound_of set_runs_of bounds exists s

  abbrev to : Bool → ℕ
  to exists = bound_of set_runs_of bounds exists (suc s)

  pub set-bounds : (exists : Bool) → exists ≡ leb s (greatest_set_of sets) → (from exists ≤ to exists) × (to exists ≤ length es)
  unfolding set_count bound_of
  set-bounds true e =
      let is_set : s < set_count sets = omega (arith, leb-true s (greatest_set_of sets) (sym e)) in
      let begins = p.runs.set_begins s (omega arith) in
      let ends = p.runs.set_begins (suc s) is_set in (
        omega (arith, start-next sets s),
        omega (arith, starts-rise sets (suc s) (set_count sets) is_set, events-total sets es accepted.sets_length),
      )
  set-bounds false e = (omega arith, omega arith)

  -- the set's part of a laid-out list, with f the edge or the offset
  list-part : (exists : Bool) → exists ≡ leb s (greatest_set_of sets) → (f : Event → ℕ) (l : List ℕ) → take (length es) l ≡ map f (grouped sets (events es xs)) → part (from exists) (to exists) l ≡ map f (laid_out_set sets (events es xs) s)
  unfolding set_count bound_of
  list-part true e f l are =
      let is_set : s < set_count sets = omega (arith, leb-true s (greatest_set_of sets) (sym e)) in
      let inside = set-bounds true e in
      let a : ℕ = from true in
      let b : ℕ = to true in
      sym (part-front (b - a) a (length es) l (omega arith))
      ∙ ap (λ (m : List ℕ). take (b - a) (drop a m)) are
      ∙ ap (take (b - a)) (drop-map f a (grouped sets (events es xs)))
      ∙ take-map f (b - a) (drop a (grouped sets (events es xs)))
      ∙ ap (map f) (set-part accepted p s is_set)
  list-part false e f l are =
      let above : greatest_set_of sets < s = leb-false s (greatest_set_of sets) (sym e) in
      sym (ap (map f) (empty-list (laid_out_set sets (events es xs) s) (laid-out-length sets (events es xs) (events-long accepted p) s ∙ none_above sets s above)))

  pub edges-part : (exists : Bool) → exists ≡ leb s (greatest_set_of sets) → part (from exists) (to exists) edges ≡ set_edges sets es xs s
  unfolding set_edges
  edges-part exists e = list-part exists e (λ v. v.edge) edges p.edges_are

  pub offsets-part : (exists : Bool) → exists ≡ leb s (greatest_set_of sets) → part (from exists) (to exists) offsets ≡ set_offsets sets es xs s
  unfolding set_offsets
  offsets-part exists e = list-part exists e (λ v. v.offset) offsets p.offsets_are
