-- The events of the runs: by their offsets, and the pair count of a set as a sum over pairs of its runs.
use mathlib.Core.List.{List, [], ◌∷◌, map}
use mathlib.Core.Path.{◌≡◌, refl, sym, ap, ap₂, ◌∙◌}
use Prim.Native.Nat.{ℕ, zero, suc, ◌+◌, ◌-◌, ◌≤◌, ◌<◌}
use native.Mathlib.Omega.{arith}
use lib.ListN.{length, get_or, take, drop, length-take, length-drop, length-map}
use lib.Seq.{get_or-take, get_or-drop, length-take-le, ext_get_or}
use Rattle.model.proofs.Laws.Checks.{SetsAccepted}
use Rattle.model.proofs.Laws.Counting.{sum-below-cong}
use Rattle.model.proofs.Laws.Pieces.{part}
use Rattle.model.specs.Counting.{sum_below, count_if}
use Rattle.model.specs.Distance.{within}
use Rattle.model.specs.Envelope.{count_of_set}
use Rattle.model.specs.Events.{Event, event, events, set_size, set_count}
use Rattle.model.specs.Network.{Network}
use Rattle.model.specs.PairCount.{event_distance}
use Rattle.prepare.specs.Prepared.{laid_out_set, grouped, start_of, Prepared}
use Rattle.prepare.proofs.Laws.Groups.{events-total, start-next, laid-out-length, grouped-length, set-slice}
use Rattle.prepare.proofs.Laws.InRuns.{run_count, set-runs-rise, run_inside}
use Rattle.prepare.proofs.Laws.LaidEvents.{set-count, events-long}
use Rattle.prepare.proofs.Laws.RunSums.{close_pairs, close-offsets, run-pairs}

-- a list of events is that of its edges and offsets
pub zipped : (l : List Event) → events (map (λ e. e.edge) l) (map (λ e. e.offset) l) ≡ l
unfolding events
zipped [] = refl
zipped (e ∷ l) = ap (λ (r : List Event). e ∷ r) (zipped l)

-- parts of the two lists make a part of the events
pub events-take : (n : ℕ) (es xs : List ℕ) → take n (events es xs) ≡ events (take n es) (take n xs)
unfolding events
events-take zero es xs = refl
events-take (suc n) [] xs = refl
events-take (suc n) (e ∷ es) [] = refl
events-take (suc n) (e ∷ es) (x ∷ xs) = ap (λ (r : List Event). event e x ∷ r) (events-take n es xs)

pub events-drop : (n : ℕ) (es xs : List ℕ) → length es ≡ length xs → drop n (events es xs) ≡ events (drop n es) (drop n xs)
unfolding events
events-drop zero es xs h = refl
events-drop (suc n) [] xs h = refl
events-drop (suc n) (e ∷ es) [] h = absurd (omega arith)
events-drop (suc n) (e ∷ es) (x ∷ xs) h = events-drop n es xs (omega arith)

-- events that all lie on one edge
pub events-on : (e : ℕ) (es xs : List ℕ) → length es ≡ length xs → ((k : ℕ) → k < length es → get_or es k 0 ≡ e) → events es xs ≡ map (event e) xs
unfolding events
events-on e [] [] h on = refl
events-on e [] (x ∷ xs) h on = absurd (omega arith)
events-on e (f ∷ es) [] h on = absurd (omega arith)
events-on e (f ∷ es) (x ∷ xs) h on =
    ap₂ (λ (g : ℕ) (r : List Event). event g x ∷ r) (on 0 (omega arith)) (events-on e es xs (omega arith) (λ k l. on (suc k) (omega arith)))

-- a part within the front of a list
pub part-front : (m a n : ℕ) (l : List ℕ) → a + m ≤ n → take m (drop a (take n l)) ≡ take m (drop a l)
part-front m a n l h =
    ext_get_or 0 _ _ (simp (length-take, length-drop) (omega arith))
    (λ k u.
    let inside : k < m = omega (arith, simp length-take at u) in
    get_or-take m (drop a (take n l)) k 0 inside ∙ get_or-drop a (take n l) k 0 ∙ get_or-take n l (a + k) 0 (omega arith) ∙ sym (get_or-drop a l k 0) ∙ sym (get_or-take m (drop a l) k 0 inside))

module _ {net : Network} {sets es xs ts edges offsets bounds set_runs_of table : List ℕ} (accepted : SetsAccepted net sets es xs)
    (p : Prepared net sets es xs ts edges offsets bounds set_runs_of table) where
  -- all events, laid out set by set
  abbrev laid : List Event
  laid = grouped sets (events es xs)

  abbrev bound : ℕ → ℕ
  bound r = get_or bounds r 0

  abbrev runs_to : ℕ → ℕ
  runs_to s = get_or set_runs_of s 0

  -- the offsets of a run, and the number of its edge
  abbrev pub run_offsets : ℕ → List ℕ
  run_offsets r = part (bound r) (bound (suc r)) offsets

  abbrev pub run_edge : ℕ → ℕ
  run_edge r = get_or edges (bound r) 0

  -- how many events of the second run lie within t of one of the first, for all of the first
  abbrev pub offset_pairs : ℕ → ℕ → ℕ → ℕ
  offset_pairs t a b =
      sum_below (length (run_offsets a)) (λ i. count_if (λ y. within (event_distance net (event (run_edge a) (get_or (run_offsets a) i 0)) (event (run_edge b) y)) t) (run_offsets b))

  laid-length : length laid ≡ length es
  unfolding grouped
  laid-length = grouped-length sets (events es xs) (events-long accepted p) (set_count sets) ∙ events-total sets es accepted.sets_length

  long-enough : (l : List ℕ) (f : Event → ℕ) → take (length es) l ≡ map f laid → length es ≤ length l
  long-enough l f e = omega (arith, simp (length-take, length-map) at (ap length e), laid-length)

  pub edges-long : length es ≤ length edges
  edges-long = long-enough edges (λ e. e.edge) p.edges_are

  pub offsets-long : length es ≤ length offsets
  offsets-long = long-enough offsets (λ e. e.offset) p.offsets_are

  laid-zipped : events (take (length es) edges) (take (length es) offsets) ≡ laid
  laid-zipped = ap₂ events p.edges_are p.offsets_are ∙ zipped laid

  -- what stands in the runs of set s is the set laid out
  pub set-part : (s : ℕ) → s < set_count sets → part (bound (runs_to s)) (bound (runs_to (suc s))) laid ≡ laid_out_set sets (events es xs) s
  set-part s h =
      let starts : bound (runs_to s) ≡ start_of sets s = p.runs.set_begins s (omega arith) in
      let ends : bound (runs_to (suc s)) ≡ start_of sets (suc s) = p.runs.set_begins (suc s) h in
      let long : start_of sets (suc s) - start_of sets s ≡ set_size sets s = omega (arith, start-next sets s) in
      rw (starts, ends, long) (set-slice sets (events es xs) (events-long accepted p) s h)

  -- a run ends within the events
  pub run_ends : (r : ℕ) → r < run_count accepted p → bound (suc r) ≤ length es
  run_ends r h =
      let up = p.runs.rising r h in
      let last = run_inside accepted p r (bound (suc r) - 1) h (omega arith) in
      omega arith

  -- a run's events, by their offsets
  module _ (r : ℕ) (is-run : r < run_count accepted p) where
    in-part : (k : ℕ) → k < length (take (bound (suc r) - bound r) (drop (bound r) edges)) → k < bound (suc r) - bound r
    in-part k h = omega (arith, simp length-take at h)

    pub run-events : part (bound r) (bound (suc r)) laid ≡ map (event (run_edge r)) (run_offsets r)
    run-events =
        let a : ℕ = bound r in
        let m : ℕ = bound (suc r) - bound r in
        let up = p.runs.rising r is-run in
        let ends = run_ends r is-run in
        let part-edges = part-front m a (length es) edges (omega arith) in
        let part-offsets = part-front m a (length es) offsets (omega arith) in
        let both : length (take m (drop a edges)) ≡ length (take m (drop a offsets)) = simp (length-take, length-drop) (omega (arith, edges-long, offsets-long)) in
        ap (λ (l : List Event). take m (drop a l)) (sym laid-zipped)
        ∙ ap (take m) (events-drop a (take (length es) edges) (take (length es) offsets) (length-take-le (length es) edges edges-long ∙ sym (length-take-le (length es) offsets offsets-long)))
        ∙ events-take m (drop a (take (length es) edges)) (drop a (take (length es) offsets))
        ∙ ap₂ events part-edges part-offsets
        ∙ events-on (run_edge r) (take m (drop a edges)) (take m (drop a offsets)) both
        (λ k h. get_or-take m (drop a edges) k 0 (in-part k h) ∙ get_or-drop a edges k 0 ∙ p.runs.one_edge r (a + k) is-run (omega arith) (omega (arith, in-part k h)))

  -- the pair count of set s, with each event beside itself: the sum over all pairs of its runs
  pub set-pairs : (s t : ℕ) → s < set_count sets → count_of_set net sets (events es xs) t s + set_size sets s ≡ sum_below (runs_to (suc s) - runs_to s) (λ a. sum_below (runs_to (suc s) - runs_to s) (λ b. offset_pairs t (runs_to s + a) (runs_to s + b)))
  set-pairs s t h =
      let m : ℕ = runs_to (suc s) - runs_to s in
      let up = p.runs.in_order s h in
      let last = set-runs-rise accepted p (suc s) (set_count sets) h (omega arith) in
      let end : runs_to s + m ≡ runs_to (suc s) = omega arith in
      let total = run-pairs net t laid bound (runs_to s) m (λ k l. let u = p.runs.rising (runs_to s + k) (omega arith) in omega arith) in
      ap₂ ◌+◌ (sym (set-count net sets (events es xs) t s)) (sym (laid-out-length sets (events es xs) (events-long accepted p) s))
      ∙ (rw (end, set-part s h) at total)
      ∙ sum-below-cong m _ _ (λ a l. sum-below-cong m _ _ (λ b u.
      ap₂ (close_pairs net t) (run-events (runs_to s + a) (omega arith)) (run-events (runs_to s + b) (omega arith))
      ∙ close-offsets net t (run_edge (runs_to s + a)) (run_edge (runs_to s + b)) (run_offsets (runs_to s + a)) (run_offsets (runs_to s + b))))
