-- The printed table of columns is the table of observed counts and envelopes.
use mathlib.Core.Bool.{Bool, true, false}
use mathlib.Core.List.{List, [], ◌∷◌, ◌++◌, map}
use mathlib.Core.Path.{◌≡◌, refl, sym, ap, ◌∙◌}
use Prim.Native.Nat.{ℕ, zero, suc, ◌+◌, ◌<◌}
use native.Mathlib.Omega.{arith}
use lib.ListN.{length, get_or, drop, drop_of_length-le}
use lib.Seq.{drop-cons}
use Rattle.model.specs.Counting.{numbers_from}
use Rattle.model.specs.Envelope.{Envelope, no_value, between, widen, envelope_of, observed, envelope}
use Rattle.model.specs.Events.{Event, greatest_set_of}
use Rattle.model.specs.Network.{Network}
use Rattle.printing.specs.Answers.{envelope_at, rows, table_bytes}
use Rattle.printing.specs.Bytes.{row}
use Rattle.model.proofs.Laws.Lists.{map_at}
use Rattle.table.specs.Table.{ends, leasts, greatests}
use Rattle.report.specs.Report.{table_rows, counts_table}

-- an envelope with a value
pub record HasValue (e : Envelope) : Type 0 where
  pub lower : ℕ
  pub upper : ℕ
  pub is : e ≡ between lower upper

widened : (n : ℕ) (e : Envelope) → HasValue (widen n e)
unfolding widen
widened n no_value = record { lower = n; upper = n; is = refl }
widened n (between lower upper) = record { lower = _; upper = _; is = refl }

module _ (net : Network) (sets : List ℕ) (es : List Event) where
  -- with comparison sets every envelope has a value, without them none
  pub some-value : (g : ℕ) → greatest_set_of sets ≡ suc g → (t : ℕ) → HasValue (envelope net sets es t)
  unfolding envelope envelope_of numbers_from
  some-value g e t = rw e (widened _ _)

  pub no-values : greatest_set_of sets ≡ 0 → (t : ℕ) → envelope net sets es t ≡ no_value
  unfolding envelope envelope_of numbers_from
  no-values e t = rw e refl

module _ (f : ℕ → Envelope) (valued : (t : ℕ) → HasValue (f t)) where
  one_end : (pick : ℕ → ℕ → ℕ) (e : Envelope) (more : List Envelope) (v : HasValue e) → ends pick (e ∷ more) ≡ pick v.lower v.upper ∷ ends pick more
  unfolding ends
  one_end pick e more v = rw v.is refl

  -- as many ends as thresholds
  pub ends-long : (pick : ℕ → ℕ → ℕ) (ts : List ℕ) → length (ends pick (map f ts)) ≡ length ts
  unfolding ends
  ends-long pick [] = refl
  ends-long pick (t ∷ ts) = ap length (one_end pick (f t) (map f ts) (valued t)) ∙ ap suc (ends-long pick ts)

  -- the two ends at a place are the envelope there
  pub ends_at : (ts : List ℕ) (k : ℕ) → k < length ts → between (get_or (leasts (map f ts)) k 0) (get_or (greatests (map f ts)) k 0) ≡ f (get_or ts k 0)
  unfolding leasts greatests
  ends_at [] k h = absurd (omega arith)
  ends_at (t ∷ ts) zero h =
      rw (one_end (λ l u. l) (f t) (map f ts) (valued t), one_end (λ l u. u) (f t) (map f ts) (valued t)) (sym (valued t).is)
  ends_at (t ∷ ts) (suc k) h =
      rw (one_end (λ l u. l) (f t) (map f ts) (valued t), one_end (λ l u. u) (f t) (map f ts) (valued t)) (ends_at ts k (omega arith))

-- rows by place are rows by threshold
module _ (comparisons : Bool) (ts counts lower upper : List ℕ) (count : ℕ → ℕ) (span : ℕ → Envelope) where
  rows-from : ((k : ℕ) → k < length ts → get_or counts k 0 ≡ count (get_or ts k 0)) → ((k : ℕ) → k < length ts → envelope_at comparisons lower upper k ≡ span (get_or ts k 0)) → (k n : ℕ) → k + n ≡ length ts → rows comparisons ts counts lower upper k n ≡ table_rows count span (drop k ts)
  unfolding rows table_rows
  rows-from counted spanned k zero e = rw (drop_of_length-le ts {i = k} (omega arith)) refl
  rows-from counted spanned k (suc n) e =
      let inside : k < length ts = omega arith in
      rw (drop-cons ts k 0 inside, counted k inside, spanned k inside)
      (ap (λ (l : List ℕ). row (get_or ts k 0) (count (get_or ts k 0)) (span (get_or ts k 0)) ++ l) (rows-from counted spanned (suc k) n (omega arith)))

module _ (net : Network) (sets : List ℕ) (es : List Event) (ts : List ℕ) where
  printed-rows : (comparisons : Bool) (counts lower upper : List ℕ) → counts ≡ map (observed net sets es) ts → ((k : ℕ) → k < length ts → envelope_at comparisons lower upper k ≡ envelope net sets es (get_or ts k 0)) → table_bytes comparisons ts counts lower upper ≡ counts_table net sets es ts
  unfolding table_bytes counts_table
  printed-rows comparisons counts lower upper e spanned =
      rw (rows-from comparisons ts counts lower upper (observed net sets es) (envelope net sets es) (λ k h. rw e (map_at (observed net sets es) ts k h)) spanned 0 (length ts) (omega arith)) refl

  pub observed-printed : (counts lower upper : List ℕ) → greatest_set_of sets ≡ 0 → counts ≡ map (observed net sets es) ts → table_bytes false ts counts lower upper ≡ counts_table net sets es ts
  unfolding envelope_at
  observed-printed counts lower upper none e = printed-rows false counts lower upper e (λ k h. sym (no-values net sets es none (get_or ts k 0)))

  pub compared-printed : (counts lower upper : List ℕ) (g : ℕ) → greatest_set_of sets ≡ suc g → counts ≡ map (observed net sets es) ts → lower ≡ leasts (map (envelope net sets es) ts) → upper ≡ greatests (map (envelope net sets es) ts) → table_bytes true ts counts lower upper ≡ counts_table net sets es ts
  unfolding envelope_at
  compared-printed counts lower upper g some e l u =
      printed-rows true counts lower upper e (λ k h. rw (l, u) (ends_at (envelope net sets es) (some-value net sets es g some) ts k h))
