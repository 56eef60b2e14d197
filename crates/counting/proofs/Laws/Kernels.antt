-- Two runs whose pairs all fall between two thresholds, and fewer totals than were promised.
use Rattle.std.proofs.Common.{◌≡◌, ℕ, suc, ◌+◌, ◌-◌, ◌*◌, ◌<◌, ◌≤◌, cond, leb, List, length, get_or, sym, ◌∙◌, arith, le-leb, leb-false}
use native.Mathlib.Decide.{dec_le}
use borrow.Author.Tests.{lt-leb}
use Rattle.edge_pair.proofs.Laws.Arrival.{none_below, all-within}
use Rattle.edge_pair.proofs.Laws.Totals.{added-as, changed-added, running-from, running-next, running-rest}
use Rattle.edge_pair.specs.Offsets.{Ordered, EdgesLaid}
use Rattle.edge_pair.specs.Totals.{Added, Changed}
use Rattle.edge_pair.specs.Ways.{shortest_route_of, greatest_distance_of}
use Rattle.edge_pair.specs.Within.{reached_pairs}
use Rattle.edge_pair.specs.declared.edges.EdgePair.{EdgePair}
use Rattle.counting.specs.Kernels.{AllFrom, LastAdmits, PartedAt, Small, Right, all_at_once_of, in_two_parts}
use Rattle.counting.specs.Runs.{TwoReady}
use Rattle.counting.specs.declared.choice.Kernel.TheVariants.{AtOnce, Parted}

-- of the first m places, no more than n
pub added-fewer : {m n : ℕ} {f : ℕ → ℕ} {old new : List ℕ} → m ≤ n → Added n f old new → Added m f old new
added-fewer h a = record { same_length = a.same_length; at = λ k l. a.at k (omega arith) }

-- from one place on all pairs are within reach, and before it none
pub added-at-once : {ts ladder : List ℕ} {w : EdgePair} {xs ys near_first near-second : List ℕ} {place pairs : ℕ} {old new : List ℕ} → TwoReady ts ladder w xs ys near_first near-second → AllFrom ts w place → pairs ≡ length xs * length ys → Changed place 0 pairs old new → Added (length ts) (λ k. reached_pairs (get_or ts k 0) w xs ys) old new
added-at-once {ts} {w = w} {xs} {ys} {place = place} {pairs} ready all many changed =
    added-as (λ k h. go k h (dec_le place k)) (changed-added (length ts) changed)
  where
    small : (k : ℕ) → k < length ts → get_or ts k 0 < 4294967296
    small = ready.ladder_is.small

    go : (k : ℕ) → k < length ts → Dec (place ≤ k) → cond (leb place k) pairs 0 ≡ reached_pairs (get_or ts k 0) w xs ys
    go k h (yes p) =
        rw (le-leb place k p) (many ∙ sym (all-within (get_or ts k 0) (small k h) w (all.behind k h p) xs ys ready.laid.first_laid.on_edge ready.laid.second_laid.on_edge))
    go k h (no p) =
        rw (lt-leb place k (omega arith)) (sym (none_below (get_or ts k 0) (small k h) w (all.before k h (omega arith)) xs ys))

-- one threshold parts them
pub added-parted : {ts : List ℕ} {w : EdgePair} {xs ys : List ℕ} {place within pairs : ℕ} {old mid new : List ℕ} → Small ts → PartedAt ts w place → EdgesLaid w xs ys → within ≡ reached_pairs (get_or ts place 0) w xs ys → pairs ≡ length xs * length ys → Changed place 0 within old mid → Changed (suc place) within pairs mid new → Added (length ts) (λ k. reached_pairs (get_or ts k 0) w xs ys) old new
added-parted {ts} {w} {xs} {ys} {place} {old = old} few parts laid here many first second =
    running-rest (length ts)
    (running-next (running-from place _ old (λ j h. none_below (get_or ts j 0) (few.small j (omega (arith, parts.in_list))) w (parts.before j (omega (arith, parts.in_list)) h) xs ys)) first here)
    second
    (λ j h l. all-within (get_or ts j 0) (few.small j l) w (parts.behind j l (omega arith)) xs ys laid.first_laid.on_edge laid.second_laid.on_edge ∙ sym many)

-- the first threshold is not below the greatest distance
pub first-admits : {ts : List ℕ} {w : EdgePair} → Ordered ts → (far : ℕ) → far ≡ greatest_distance_of w → (t : ℕ) → t ≡ get_or ts 0 0 → far ≤ t → AllFrom ts w 0
first-admits up far far-is t t-is l =
    record { before = λ n m h. absurd (omega arith); behind = λ n m h. rw (← far-is) (omega (arith, t-is, up.in_order 0 n h m)) }

-- only the last one admits the shortest route, and it admits the greatest distance
pub last-admits : {ts : List ℕ} {w : EdgePair} → Ordered ts → (near far : ℕ) → near ≡ shortest_route_of w → far ≡ greatest_distance_of w → LastAdmits near far ts → AllFrom ts w (length ts - 1)
last-admits {ts} up near far near-is far-is a =
    record {
      before = λ n m h. rw (← near-is) (omega (arith, a.before, up.in_order n (length ts - 2) (omega (arith, a.several)) (omega (arith, a.several))));
      behind = λ n m h. rw (← far-is) (omega (arith, a.last, up.in_order (length ts - 1) n h m));
    }

-- the place of the first threshold that is not below the shortest route
module _ (ts : List ℕ) (w : EdgePair) (near place : ℕ) (near-is : near ≡ shortest_route_of w) (place_is : (k : ℕ) → k < length ts → leb place k ≡ leb near (get_or ts k 0)) where
  below : (n : ℕ) → n < length ts → n < place → get_or ts n 0 < shortest_route_of w
  below n h l = rw (← near-is) (leb-false near (get_or ts n 0) (sym (place_is n h) ∙ lt-leb place n l))

  -- it is not below the greatest distance, or there is none
  pub admits-all : Ordered ts → (far : ℕ) → far ≡ greatest_distance_of w → (place < length ts → far ≤ get_or ts place 0) → AllFrom ts w place
  admits-all up far far-is here =
      record {
        before = below;
        behind = λ n m l. rw (← far-is) (omega (arith, here (omega arith), up.in_order place n l m));
      }

  -- the next one is not, or there is none
  pub parts_all : Ordered ts → place < length ts → (far : ℕ) → far ≡ greatest_distance_of w → (place + 1 < length ts → far ≤ get_or ts (place + 1) 0) → PartedAt ts w place
  parts_all up h far far-is next =
      record {
        in_list = h;
        before = below;
        behind = λ n m l. rw (← far-is) (omega (arith, next (omega arith), up.in_order (place + 1) n (omega arith) m));
      }

-- what the thresholds are where no kernel is taken
pub at_once : {ts : List ℕ} {w : EdgePair} {k : ℕ} → Right ts w (AtOnce k) → AllFrom ts w k
at_once (all_at_once_of all) = all

pub two-parts : {ts : List ℕ} {w : EdgePair} {k : ℕ} → Right ts w (Parted k) → PartedAt ts w k
two-parts (in_two_parts parts) = parts
