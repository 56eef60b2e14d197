-- Cutting laid-out events into runs: how the loops go.
use mathlib.Core.Bool.{Bool, true, false, not, ◌||◌, false≢true}
use mathlib.Core.List.{List}
use mathlib.Core.Logic.{⊎_elim}
use mathlib.Core.Path.{◌≡◌, refl, sym, ap, ◌∙◌}
use Prim.Native.Nat.{ℕ, zero, suc, pred, ◌+◌, ◌≤◌, ◌<◌}
use native.Mathlib.Nat.{eq-or-lt_of_le}
use native.Mathlib.Numerals.{add-one}
use native.Mathlib.Omega.{arith}
use lib.Dec.{eqb}
use lib.ListN.{length, get_or, set}
use lib.Seq.{get_or-set_same, get_or-set_other}
use borrow.Author.Tests.{eqb-true, eqb-false, eq-eqb, ne_eqb}
use Rattle.model.specs.Limits.{max_events}
use Rattle.prepare.specs.Cutting.{Cut, ends_run_of, Cuttable, CutTo, Startable, SetsCut}

-- no run ends at a place: it is not the last, and the edge is the one before it
pub run-goes-on : (edges : List ℕ) (to k : ℕ) → ends_run_of edges to k ≡ false → (k ≡ to → ⊥) × (get_or edges k 0 ≡ get_or edges (pred k) 0)
unfolding ends_run_of
run-goes-on edges to k e = go (eqb k to) refl (eqb (get_or edges k 0) (get_or edges (pred k) 0)) refl e
  where
    go : (a : Bool) → eqb k to ≡ a → (b : Bool) → eqb (get_or edges k 0) (get_or edges (pred k) 0) ≡ b → (a || not b) ≡ false → (k ≡ to → ⊥) × (get_or edges k 0 ≡ get_or edges (pred k) 0)
    go true p b q f = absurd (let z : ◌≡◌ {A = ℕ} 0 1 = cc in omega arith)
    go false p true q f = (eqb-false _ _ p, eqb-true _ _ q)
    go false p false q f = absurd (let z : ◌≡◌ {A = ℕ} 0 1 = cc in omega arith)

-- a run ends at a place that is not the last: the edge changes
pub run-changes : (edges : List ℕ) (to k : ℕ) → ends_run_of edges to k ≡ true → k < to → get_or edges k 0 ≡ get_or edges (pred k) 0 → ⊥
unfolding ends_run_of
run-changes edges to k e h same =
    let told : (eqb k to || not (eqb (get_or edges k 0) (get_or edges (pred k) 0))) ≡ true = e in
    go (rw (ne_eqb k to (λ q. omega arith), eq-eqb _ _ same) at told)
  where
    go : false ≡ true → ⊥
    go f = false≢true f

-- later runs begin later
pub bounds-climb : (edges bounds : List ℕ) (n : ℕ) → Cut edges bounds n → (r q : ℕ) → r < q → q ≤ n → get_or bounds r 0 < get_or bounds q 0
bounds-climb edges bounds n cut r zero h l = absurd (omega arith)
bounds-climb edges bounds n cut r (suc q) h l =
    ⊎_elim (λ e. rw e (cut.rising q l))
    (λ less. omega (arith, bounds-climb edges bounds n cut r q less (omega arith), cut.rising q l))
    (eq-or-lt_of_le {n = r} {m = q} (omega arith))

-- entries in front of the one that is stored stay
kept-below : (bounds : List ℕ) (r b q : ℕ) → q < r → get_or (set bounds r b) q 0 ≡ get_or bounds q 0
kept-below bounds r b q h = get_or-set_other bounds r q b 0 (λ e. omega arith)

-- one run more, from the last bound to b
module _ (edges bounds : List ℕ) (r b : ℕ) (cut : Cut edges bounds r) (room : suc r < length bounds) (further : get_or bounds r 0 < b)
    (on_edge : (j : ℕ) → get_or bounds r 0 ≤ j → j < b → get_or edges j 0 ≡ get_or edges (get_or bounds r 0) 0) where
  abbrev stored : List ℕ
  stored = set bounds (suc r) b

  stays : (q : ℕ) → q ≤ r → get_or stored q 0 ≡ get_or bounds q 0
  stays q h = kept-below bounds (suc r) b q (omega arith)

  last : get_or stored (suc r) 0 ≡ b
  last = get_or-set_same bounds (suc r) b 0 room

  run-rises : (q : ℕ) → q < suc r → get_or stored q 0 < get_or stored (suc q) 0
  run-rises q h =
      ⊎_elim (λ e. rw (e, stays r (omega arith), last) further)
      (λ l. rw (stays q (omega arith), stays (suc q) l) (cut.rising q l))
      (eq-or-lt_of_le {n = q} {m = r} (omega arith))

  run-one-edge : (q k : ℕ) → q < suc r → get_or stored q 0 ≤ k → k < get_or stored (suc q) 0 → get_or edges k 0 ≡ get_or edges (get_or stored q 0) 0
  run-one-edge q k h low high =
      ⊎_elim
      (λ e.
      let begins : get_or stored q 0 ≡ get_or bounds r 0 = ap (λ (n : ℕ). get_or stored n 0) e ∙ stays r (omega arith) in
      let ends : get_or stored (suc q) 0 ≡ b = ap (λ (n : ℕ). get_or stored (suc n) 0) e ∙ last in
      rw begins (on_edge k (omega arith) (omega arith)))
      (λ l. rw (stays q (omega arith)) (cut.one_edge q k l (rw (stays q (omega arith)) at low) (rw (stays (suc q) l) at high)))
      (eq-or-lt_of_le {n = q} {m = r} (omega arith))

  pub one-run-more : Cut edges stored (suc r)
  one-run-more =
      record {
        at_zero = stays 0 (omega arith) ∙ cut.at_zero;
        rising = run-rises;
        one_edge = run-one-edge;
        few = rw last (omega (arith, cut.few));
      }

-- the state of the loop that cuts one set: r runs, and the events from the last bound up to before place k on one edge
pub record CutSoFar (edges bounds : List ℕ) (runs to : ℕ) (bounds' : List ℕ) (r k : ℕ) : Type 0 where
  pub cut : Cut edges bounds' r
  pub more : runs ≤ r
  pub kept : (q : ℕ) → q ≤ runs → get_or bounds' q 0 ≡ get_or bounds q 0
  pub reached : get_or bounds' r 0 < k
  pub within : k ≤ suc to
  pub on_edge : (j : ℕ) → get_or bounds' r 0 ≤ j → j < k → get_or edges j 0 ≡ get_or edges (get_or bounds' r 0) 0
  pub closed : k ≡ suc to → get_or bounds' r 0 ≡ to
  pub cuts : (q : ℕ) → runs < q → q ≤ r → ends_run_of edges to (get_or bounds' q 0) ≡ true

module _ (edges bounds : List ℕ) (runs from to : ℕ) (asked : Cuttable edges bounds runs from to) where
  pub cut-begins : CutSoFar edges bounds runs to bounds runs (suc from)
  cut-begins =
      let begins = asked.begins in
      let in_order = asked.in_order in
      record {
        cut = asked.cut;
        more = omega arith;
        kept = λ q h. refl;
        reached = omega arith;
        within = omega arith;
        on_edge = λ j low high. ap (λ (n : ℕ). get_or edges n 0) (omega arith);
        closed = λ e. omega arith;
        cuts = λ q h l. absurd (omega arith);
      }

  module _ (bounds' : List ℕ) (r k : ℕ) (long : length bounds' ≡ length bounds) (so_far : CutSoFar edges bounds runs to bounds' r k) (inside : k ≤ to) where
    pub run_room : suc r < length bounds'
    run_room = omega (arith, so_far.cut.few, so_far.reached, asked.room)

    -- the run ends at this place
    pub cut-here : ends_run_of edges to k ≡ true → CutSoFar edges bounds runs to (set bounds' (suc r) k) (suc r) (suc k)
    cut-here ends =
        let reached = so_far.reached in
        let more = so_far.more in
        let last : get_or (set bounds' (suc r) k) (suc r) 0 ≡ k = get_or-set_same bounds' (suc r) k 0 run_room in
        record {
          cut = one-run-more edges bounds' r k so_far.cut run_room reached so_far.on_edge;
          more = omega arith;
          kept = λ q h. kept-below bounds' (suc r) k q (omega arith) ∙ so_far.kept q h;
          reached = omega arith;
          within = omega arith;
          on_edge = λ j low high. ap (λ (n : ℕ). get_or edges n 0) (omega arith);
          closed = λ e. omega arith;
          cuts = λ q h l.
              ⊎_elim (λ same. ap (ends_run_of edges to) (ap (λ (n : ℕ). get_or (set bounds' (suc r) k) n 0) same ∙ last) ∙ ends)
              (λ less. rw (kept-below bounds' (suc r) k q less) (so_far.cuts q h (omega arith)))
              (eq-or-lt_of_le {n = q} {m = suc r} l);
        }

    -- it goes on
    pub cut_later : ends_run_of edges to k ≡ false → CutSoFar edges bounds runs to bounds' r (suc k)
    cut_later e =
        let reached = so_far.reached in
        let goes_on = run-goes-on edges to k e in
        record {
          cut = so_far.cut;
          more = so_far.more;
          kept = so_far.kept;
          reached = omega arith;
          within = omega arith;
          on_edge = λ j low high.
              ⊎_elim (λ same. rw same (goes_on.1 ∙ so_far.on_edge (pred k) (omega arith) (omega arith)))
              (λ less. so_far.on_edge j low less)
              (eq-or-lt_of_le {n = j} {m = k} (omega arith));
          closed = λ last. absurd (goes_on.0 (omega arith));
          cuts = so_far.cuts;
        }

  pub cut-ends : (bounds' : List ℕ) (r k : ℕ) → CutSoFar edges bounds runs to bounds' r k → to < k → CutTo edges bounds runs to r bounds'
  cut-ends bounds' r k so_far h =
      let within = so_far.within in
      record { cut = so_far.cut; ends = so_far.closed (omega arith); more = so_far.more; kept = so_far.kept; cuts = so_far.cuts }

-- the same for the loop over the sets: at the start no set is cut
pub sets-begin : (starts edges bounds set_runs_of : List ℕ) → 0 < length bounds → 0 < length set_runs_of → get_or starts 0 0 ≡ 0
    → SetsCut starts edges (set bounds 0 0) (set set_runs_of 0 0) 0
sets-begin starts edges bounds set_runs_of room runs_room e =
    let begins : get_or (set set_runs_of 0 0) 0 0 ≡ 0 = get_or-set_same set_runs_of 0 0 0 runs_room in
    let at_zero : get_or (set bounds 0 0) 0 0 ≡ 0 = get_or-set_same bounds 0 0 0 room in
    record {
      cut = rw begins (record {
        at_zero = at_zero;
        rising = λ q h. absurd (omega arith);
        one_edge = λ q k h. absurd (omega arith);
        few = omega arith;
      });
      begins = begins;
      in_order = λ s h. absurd (omega arith);
      below = λ s h. let first : s ≡ 0 = omega arith in rw first (omega arith);
      set_begins = λ s h. let first : s ≡ 0 = omega arith in rw (first, begins) (at_zero ∙ sym e);
      cuts = λ s q h. absurd (omega arith);
    }

-- one set more is cut
module _ (starts edges bounds set_runs_of : List ℕ) (s : ℕ) (so_far : SetsCut starts edges bounds set_runs_of s) (r : ℕ) (bounds' : List ℕ)
    (next : CutTo edges bounds (get_or set_runs_of s 0) (get_or starts (suc s) 0) r bounds') (room : suc s < length set_runs_of) where
  abbrev noted : List ℕ
  noted = set set_runs_of (suc s) r

  earlier : (q : ℕ) → q ≤ s → get_or noted q 0 ≡ get_or set_runs_of q 0
  earlier q h = kept-below set_runs_of (suc s) r q (omega arith)

  newest : get_or noted (suc s) 0 ≡ r
  newest = get_or-set_same set_runs_of (suc s) r 0 room

  set-in-order : (q : ℕ) → q < suc s → get_or noted q 0 ≤ get_or noted (suc q) 0
  set-in-order q h =
      ⊎_elim (λ e. rw (e, earlier s (omega arith), newest) next.more)
      (λ l. rw (earlier q (omega arith), earlier (suc q) l) (so_far.in_order q l))
      (eq-or-lt_of_le {n = q} {m = s} (omega arith))

  set_below : (q : ℕ) → q ≤ suc s → get_or noted q 0 ≤ get_or noted (suc s) 0
  set_below q h =
      ⊎_elim (λ e. rw e (omega arith))
      (λ l. rw (earlier q (omega arith), newest) (omega (arith, so_far.below q (omega arith), next.more)))
      (eq-or-lt_of_le {n = q} {m = suc s} h)

  set_at : (q : ℕ) → q ≤ suc s → get_or bounds' (get_or noted q 0) 0 ≡ get_or starts q 0
  set_at q h =
      ⊎_elim (λ e. ap (λ (n : ℕ). get_or bounds' n 0) (ap (λ (n : ℕ). get_or noted n 0) e ∙ newest) ∙ next.ends ∙ ap (λ (n : ℕ). get_or starts n 0) (sym e))
      (λ l. rw (earlier q (omega arith)) (next.kept _ (so_far.below q (omega arith)) ∙ so_far.set_begins q (omega arith)))
      (eq-or-lt_of_le {n = q} {m = suc s} h)

  set-cuts : (t q : ℕ) → t < suc s → get_or noted t 0 < q → q ≤ get_or noted (suc t) 0 → ends_run_of edges (get_or starts (suc t) 0) (get_or bounds' q 0) ≡ true
  set-cuts t q h low high =
      ⊎_elim
      (λ e.
      let begins : get_or noted t 0 ≡ get_or set_runs_of s 0 = ap (λ (n : ℕ). get_or noted n 0) e ∙ earlier s (omega arith) in
      let ends : get_or noted (suc t) 0 ≡ r = ap (λ (n : ℕ). get_or noted (suc n) 0) e ∙ newest in
      rw e (next.cuts q (omega arith) (omega arith)))
      (λ l.
      let begins : get_or noted t 0 ≡ get_or set_runs_of t 0 = earlier t (omega arith) in
      let ends : get_or noted (suc t) 0 ≡ get_or set_runs_of (suc t) 0 = earlier (suc t) l in
      rw (next.kept q (omega (arith, so_far.below (suc t) l))) (so_far.cuts t q l (omega arith) (omega arith)))
      (eq-or-lt_of_le {n = t} {m = s} (omega arith))

  pub one-set-more : SetsCut starts edges bounds' noted (suc s)
  one-set-more =
      record {
        cut = rw newest next.cut;
        begins = earlier 0 (omega arith) ∙ so_far.begins;
        in_order = set-in-order;
        below = set_below;
        set_begins = set_at;
        cuts = set-cuts;
      }

-- a turn of the loop over the sets, in the terms of the code
module _ (starts edges bounds₀ set_runs₀ : List ℕ) (n : ℕ) (asked : Startable starts edges bounds₀ set_runs₀ n)
    (bounds set_runs_of : List ℕ) (s runs : ℕ) (long : length bounds ≡ length bounds₀) (runs-long : length set_runs_of ≡ length set_runs₀)
    (now : get_or set_runs_of s 0 ≡ runs) (so_far : SetsCut starts edges bounds set_runs_of s) (inside : s < n) where
  pub set-cuttable : Cuttable edges bounds runs (get_or starts s 0) (get_or starts (s + 1) 0)
  set-cuttable =
      let next : s + 1 ≡ suc s = add-one s in
      let last = asked.to_last (suc s) inside in
      rw next (record {
        cut = rw now at so_far.cut;
        begins = rw now at (so_far.set_begins s (omega arith));
        in_order = asked.in_order s inside;
        within = omega (arith, asked.within);
        few = omega (arith, asked.few);
        room = omega (arith, asked.room);
      })

  module _ (r : ℕ) (bounds' : List ℕ) (next : CutTo edges bounds runs (get_or starts (s + 1) 0) r bounds') where
    pub few_runs : r ≤ max_events
    few_runs = omega (arith, next.cut.few, next.ends, asked.few, rw (← add-one s) at (asked.to_last (suc s) inside))

    pub next-set : SetsCut starts edges bounds' (set set_runs_of (s + 1) r) (s + 1)
    next-set =
        rw (add-one s)
        (one-set-more starts edges bounds set_runs_of s so_far r bounds' (rw (add-one s, ← now) at next) (omega (arith, asked.runs_room)))
