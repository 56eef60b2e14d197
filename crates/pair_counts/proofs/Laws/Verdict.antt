-- The verdict put together: the lowest number, then the lowest place.
use Rattle.std.specs.Prelude.{Ok, Err}
use Rattle.model.specs.declared.refusal.Refusal.{Refusal}
use Rattle.model.specs.declared.refusal.Fault.TheVariants.{BadSet, ListsDiffer, NoEdge}
use mathlib.Core.Bool.{Bool, true, false, cond, ◌&&◌, ◌||◌}
use mathlib.Core.List.{List}
use mathlib.Core.Path.{◌≡◌, refl, sym, ◌∙◌}
use Prim.Native.Nat.{ℕ, ◌*◌, ◌/◌, ◌≤◌, ◌<◌}
use native.Mathlib.Omega.{arith}
use borrow.Author.Tests.{le-leb, lt-leb, lt-ltb, le-ltb, eq-eqb, ne_eqb, leb-true}
use lib.Dec.{eqb, leb, ltb}
use lib.ListN.{length}
use Rattle.model.proofs.Laws.Refusal.{not-accepted, or-else-next, or-else-refused, both-accepted, unless-accepted, unless-accepts, unless-refuses}
use Rattle.model.proofs.Laws.CheckParts.{same-length-accepts}
use Rattle.model.specs.Checks.{same_length_of, room_check, lone_edge_check}
use Rattle.model.specs.Events.{set_count}
use Rattle.model.specs.Limits.{max_set}
use Rattle.model.specs.Network.{Network, edges}
use Rattle.model.specs.Refusal.{fault_number, is_between_of, Check, accepted, refusal}
use Rattle.prepare.proofs.Laws.Verdict.{counts-accepted, with-room, quotient-test}
use Rattle.prepare.specs.Counts.{counts_check}
use Rattle.pair_counts.specs.Claim.{lowest, on_edge_of, cursor_room, asked_check}

-- of two refusals, by number and by place
module _ (r s : Refusal) where
  pub lower-number : fault_number r.fault < fault_number s.fault → ◌≡◌ {A = Check} (Err r) (lowest (Err r) (Err s))
  unfolding lowest
  lower-number h = rw (lt-ltb (fault_number r.fault) (fault_number s.fault) h)

  pub higher-number : fault_number s.fault < fault_number r.fault → ◌≡◌ {A = Check} (Err s) (lowest (Err r) (Err s))
  unfolding lowest
  higher-number h = rw (le-ltb (fault_number r.fault) (fault_number s.fault) (omega arith), ne_eqb (fault_number r.fault) (fault_number s.fault) (λ e. omega arith))

  pub lower-place : fault_number r.fault ≡ fault_number s.fault → r.place ≤ s.place → ◌≡◌ {A = Check} (Err r) (lowest (Err r) (Err s))
  unfolding lowest
  lower-place e h = rw (le-ltb (fault_number r.fault) (fault_number s.fault) (omega arith), eq-eqb (fault_number r.fault) (fault_number s.fault) e, le-leb r.place s.place h)

  pub higher-place : fault_number r.fault ≡ fault_number s.fault → s.place < r.place → ◌≡◌ {A = Check} (Err s) (lowest (Err r) (Err s))
  unfolding lowest
  higher-place e h = rw (le-ltb (fault_number r.fault) (fault_number s.fault) (omega arith), eq-eqb (fault_number r.fault) (fault_number s.fault) e, lt-leb r.place s.place h)

-- the one accepts: the other decides
pub lowest-next : (a b : Check) → a ≡ accepted → b ≡ lowest a b
unfolding lowest
lowest-next a b e = rw e

pub lowest-alone : (a b : Check) → b ≡ accepted → a ≡ lowest a b
unfolding lowest
lowest-alone (Ok done) b e = sym e
lowest-alone (Err x) b e = rw e

-- both accept where the whole does
pub lowest-accepted : (a b : Check) → lowest a b ≡ accepted → (a ≡ accepted) × (b ≡ accepted)
unfolding lowest
lowest-accepted (Ok done) b e = (refl, e)
lowest-accepted (Err x) (Ok done) e = not-accepted e
lowest-accepted (Err x) (Err x2) e = go (ltb (fault_number x.fault) (fault_number x2.fault) || (eqb (fault_number x.fault) (fault_number x2.fault) && leb x.place x2.place)) e
  where
    go : (b : Bool) → ◌≡◌ {A = Check} (cond b (Err x) (Err x2)) accepted → (◌≡◌ {A = Check} (Err x) accepted) × (◌≡◌ {A = Check} (Err x2) accepted)
    go true e = not-accepted e
    go false e = not-accepted e

-- the set and the two edges
module _ (net : Network) (s e f : ℕ) where
  pub no-set : leb s max_set ≡ false → refusal BadSet 0 ≡ asked_check net s e f
  unfolding asked_check
  no-set h = sym (or-else-refused _ (unless-refuses _ _ _ h))

  pub no_first : leb s max_set ≡ true → is_between_of 1 (edges net) e ≡ false → refusal NoEdge 0 ≡ asked_check net s e f
  unfolding asked_check lone_edge_check
  no_first h a = sym (or-else-next _ (unless-accepts _ _ _ h) ∙ or-else-refused _ (unless-refuses _ _ _ a))

  pub no_second : leb s max_set ≡ true → is_between_of 1 (edges net) e ≡ true → is_between_of 1 (edges net) f ≡ false → refusal NoEdge 0 ≡ asked_check net s e f
  unfolding asked_check lone_edge_check
  no_second h a b = sym (or-else-next _ (unless-accepts _ _ _ h) ∙ or-else-next _ (unless-accepts _ _ _ a) ∙ unless-refuses _ _ _ b)

  pub asked : leb s max_set ≡ true → is_between_of 1 (edges net) e ≡ true → is_between_of 1 (edges net) f ≡ true → accepted ≡ asked_check net s e f
  unfolding asked_check lone_edge_check
  asked h a b = sym (or-else-next _ (unless-accepts _ _ _ h) ∙ or-else-next _ (unless-accepts _ _ _ a) ∙ unless-accepts _ _ _ b)

  pub asked-accepted : asked_check net s e f ≡ accepted → (leb s max_set ≡ true) × (lone_edge_check net e ≡ accepted) × (lone_edge_check net f ≡ accepted)
  unfolding asked_check
  asked-accepted h =
      let set = both-accepted _ _ h in
      let edges = both-accepted _ _ set.1 in
      (unless-accepted _ _ _ set.0, edges.0, edges.1)

-- a quotient in place of a product
pub too_many : (n count room : ℕ) → count ≡ n → room / 6 < count → leb (6 * n) room ≡ false
too_many n count room e h = sym (quotient-test 6 n room (omega arith)) ∙ lt-leb n (room / 6) (rw e at h)

pub not-too-many : (n count room : ℕ) → count ≡ n → count ≤ room / 6 → leb (6 * n) room ≡ true
not-too-many n count room e h = sym (quotient-test 6 n room (omega arith)) ∙ le-leb n (room / 6) (rw e at h)

-- the room for positions and moves
module _ (sets es ps ms : List ℕ) (s e : ℕ) where
  pub lists-differ : eqb (length sets) (length es) ≡ false → refusal ListsDiffer 0 ≡ cursor_room sets es s e ps ms
  unfolding cursor_room same_length_of
  lists-differ h = sym (or-else-refused _ (unless-refuses _ _ _ h))

  pub few-positions : length sets ≡ length es → leb (6 * on_edge_of sets es s e) (length ps) ≡ false → refusal ListsDiffer 0 ≡ cursor_room sets es s e ps ms
  unfolding cursor_room room_check
  few-positions h a = sym (or-else-next _ (same-length-accepts sets es h) ∙ or-else-refused _ (unless-refuses _ _ _ a))

  pub few_moves : length sets ≡ length es → leb (6 * on_edge_of sets es s e) (length ps) ≡ true → length ms < 6 → refusal ListsDiffer 0 ≡ cursor_room sets es s e ps ms
  unfolding cursor_room room_check
  few_moves h a b = sym (or-else-next _ (same-length-accepts sets es h) ∙ or-else-next _ (unless-accepts _ _ _ a) ∙ unless-refuses _ _ _ (lt-leb 6 (length ms) b))

  pub roomy : length sets ≡ length es → leb (6 * on_edge_of sets es s e) (length ps) ≡ true → 6 ≤ length ms → accepted ≡ cursor_room sets es s e ps ms
  unfolding cursor_room room_check
  roomy h a b = sym (or-else-next _ (same-length-accepts sets es h) ∙ or-else-next _ (unless-accepts _ _ _ a) ∙ unless-accepts _ _ _ (le-leb 6 (length ms) b))

  pub room-accepted : cursor_room sets es s e ps ms ≡ accepted → (6 * on_edge_of sets es s e ≤ length ps) × (6 ≤ length ms)
  unfolding cursor_room room_check
  room-accepted h =
      let rooms = both-accepted _ _ (both-accepted _ _ h).1 in
      (leb-true _ _ (unless-accepted _ _ _ rooms.0), leb-true _ _ (unless-accepted _ _ _ rooms.1))

-- what is accepted with so much room is accepted with more
pub roomier : (net : Network) (sets es xs ts : List ℕ) (m n : ℕ) → m ≤ n → counts_check net sets es xs ts m ≡ accepted → counts_check net sets es xs ts n ≡ accepted
roomier net sets es xs ts m n h e =
    let enough = (counts-accepted net sets es xs ts m e).roomy in
    let more : set_count sets * length ts ≤ n = omega arith in
    sym (with-room net sets es xs ts n (le-leb _ _ more)) ∙ with-room net sets es xs ts m (le-leb _ _ enough) ∙ e
