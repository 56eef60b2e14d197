-- Runs: each lies in one set, and in it offsets rise.
use mathlib.Core.Bool.{false}
use mathlib.Core.List.{List}
use mathlib.Core.Logic.{⊎_elim}
use mathlib.Core.Path.{◌≡◌, sym, ap₂, ◌∙◌}
use Prim.Native.Nat.{ℕ, zero, suc, ◌+◌, ◌-◌, ◌≤◌, ◌<◌}
use native.Mathlib.Decide.{dec_le}
use native.Mathlib.Nat.{eq-or-lt_of_le, lt_of_not-le}
use native.Mathlib.Omega.{arith}
use lib.ListN.{length, get_or}
use Rattle.model.proofs.Laws.Checks.{SetsAccepted}
use Rattle.model.proofs.Laws.Sorted.{sorted-in-order, in-order-at, same-edge}
use Rattle.model.specs.Events.{event, events, having, before, set_size, set_count}
use Rattle.model.specs.Network.{Network}
use Rattle.model.specs.PairCount.{event_at}
use Rattle.prepare.specs.Prepared.{laid_out_set, start_of, Prepared}
use Rattle.prepare.proofs.Laws.Groups.{start-next, events-total, laid-out-length}
use Rattle.prepare.proofs.Laws.LaidEvents.{events-long, set-event}

-- run r is one of set s
pub record InSet (sets set_runs_of : List ℕ) (s r : ℕ) : Type 0 where
  pub is_set : s < set_count sets
  pub from : get_or set_runs_of s 0 ≤ r
  pub to : r < get_or set_runs_of (suc s) 0

module _ {net : Network} {sets es xs ts edges offsets bounds set_runs_of table : List ℕ} (accepted : SetsAccepted net sets es xs)
    (p : Prepared net sets es xs ts edges offsets bounds set_runs_of table) where
  -- the number of runs
  abbrev pub run_count : ℕ
  run_count = get_or set_runs_of (set_count sets) 0

  pub bounds-rise : (r q : ℕ) → r ≤ q → q ≤ run_count → get_or bounds r 0 ≤ get_or bounds q 0
  bounds-rise r zero l h = let e : r ≡ 0 = omega arith in rw e (omega arith)
  bounds-rise r (suc q) l h =
      ⊎_elim (λ e. rw e (omega arith))
      (λ less. omega (arith, bounds-rise r q (omega arith) (omega arith), p.runs.rising q h))
      (eq-or-lt_of_le {n = r} {m = suc q} l)

  pub set-runs-rise : (s n : ℕ) → s ≤ n → n ≤ set_count sets → get_or set_runs_of s 0 ≤ get_or set_runs_of n 0
  set-runs-rise s zero l h = let e : s ≡ 0 = omega arith in rw e (omega arith)
  set-runs-rise s (suc n) l h =
      ⊎_elim (λ e. rw e (omega arith))
      (λ less. omega (arith, set-runs-rise s n (omega arith) (omega arith), p.runs.in_order n h))
      (eq-or-lt_of_le {n = s} {m = suc n} l)

  -- the run of a set lies within the set
  pub run-in-set : (s r : ℕ) → InSet sets set_runs_of s r → (start_of sets s ≤ get_or bounds r 0) × (get_or bounds (suc r) 0 ≤ start_of sets (suc s))
  run-in-set s r i =
      let last = set-runs-rise (suc s) (set_count sets) i.is_set (omega arith) in
      let set = i.is_set in (
        omega (arith, bounds-rise (get_or set_runs_of s 0) r i.from (omega (arith, i.to)), p.runs.set_begins s (omega arith)),
        omega (arith, bounds-rise (suc r) (get_or set_runs_of (suc s) 0) i.to last, p.runs.set_begins (suc s) set),
      )

  -- every run is one of a set
  run-among : (n r : ℕ) → n ≤ set_count sets → r < get_or set_runs_of n 0 → (s : ℕ) × InSet sets set_runs_of s r
  run-among zero r h l = absurd (omega (arith, p.runs.begins))
  run-among (suc n) r h l = go (dec_le (get_or set_runs_of n 0) r) (λ k. run-among n r (omega arith) k)
    where
      go : Dec (get_or set_runs_of n 0 ≤ r) → (r < get_or set_runs_of n 0 → (s : ℕ) × InSet sets set_runs_of s r) → (s : ℕ) × InSet sets set_runs_of s r
      go (yes from) rest = (n, record { is_set = h; from = from; to = l })
      go (no less) rest = rest (lt_of_not-le less)

  pub set-of-run : (r : ℕ) → r < run_count → (s : ℕ) × InSet sets set_runs_of s r
  set-of-run r h = run-among (set_count sets) r (omega arith) h

  -- the events of a run are among those given
  pub run_inside : (r k : ℕ) → r < run_count → k < get_or bounds (suc r) 0 → k < length es
  run_inside r k h l =
      omega (arith, bounds-rise (suc r) run_count h (omega arith), p.runs.set_begins (set_count sets) (omega arith), events-total sets es accepted.sets_length)

  offset-in-set : (s i j : ℕ) → s < set_count sets → i < j → j < set_size sets s
      → get_or edges (start_of sets s + i) 0 ≡ get_or edges (start_of sets s + j) 0 → get_or offsets (start_of sets s + i) 0 ≤ get_or offsets (start_of sets s + j) 0
  unfolding laid_out_set
  offset-in-set s i j h l u e =
      let at_i = set-event accepted p s i h (omega arith) in
      let at_j = set-event accepted p s j h u in
      let long = laid-out-length sets (events es xs) (events-long accepted p) s in
      let order : before (event_at (laid_out_set sets (events es xs) s) j) (event_at (laid_out_set sets (events es xs) s) i) ≡ false =
      in-order-at (laid_out_set sets (events es xs) s) (sorted-in-order (having s sets (events es xs))) i j l (omega arith) in
      same-edge (event (get_or edges (start_of sets s + i) 0) (get_or offsets (start_of sets s + i) 0)) (event (get_or edges (start_of sets s + j) 0) (get_or offsets (start_of sets s + j) 0)) e
      (sym (ap₂ before at_j at_i) ∙ order)

  pub offsets_rise : (r k j : ℕ) → r < run_count → get_or bounds r 0 ≤ k → k ≤ j → j < get_or bounds (suc r) 0 → get_or offsets k 0 ≤ get_or offsets j 0
  offsets_rise r k j h from l to =
      let found = set-of-run r h in
      let s = found.0 in
      let within = run-in-set s r found.1 in
      let to-k : start_of sets s + (k - start_of sets s) ≡ k = omega arith in
      let to_j : start_of sets s + (j - start_of sets s) ≡ j = omega arith in
      let one_edge : get_or edges k 0 ≡ get_or edges j 0 = p.runs.one_edge r k h from (omega arith) ∙ sym (p.runs.one_edge r j h (omega arith) to) in
      ⊎_elim (λ e. rw e (omega arith))
      (λ less.
      rw (to-k, to_j) at
      (offset-in-set s (k - start_of sets s) (j - start_of sets s) found.1.is_set (omega arith) (omega (arith, start-next sets s)) (rw (to-k, to_j) one_edge)))
      (eq-or-lt_of_le {n = k} {m = j} l)
