-- The table: its verdict, and its rows while they are filled one after the other.
use Rattle.model.specs.declared.refusal.Fault.TheVariants.{ListsDiffer}
use mathlib.Core.Bool.{cond}
use mathlib.Core.List.{List, ◌++◌, append_assoc, append-nil}
use mathlib.Core.Path.{◌≡◌, ◌∙◌, refl, sym, ap}
use Prim.Native.Nat.{ℕ, zero, suc, ◌+◌, ◌*◌, ◌≤◌, ◌<◌}
use native.Mathlib.Nat.{mul-le-mul, mul-le-mul_right, suc-mul}
use native.Mathlib.Numerals.{add-one}
use native.Mathlib.Omega.{arith}
use borrow.Author.Tests.{eq-eqb, ne_eqb, eqb-true, le-leb, lt-leb, leb-true}
use lib.Dec.{eqb}
use lib.ListN.{length, get_or, take, drop, take-append-drop, drop_of_length-le, length-append, length-drop, get_or-append}
use lib.Seq.{length-take-le, take_at, drop_at, drop-drop, get_or-take, get_or-drop}
use Rattle.model.proofs.Laws.CheckParts.{lists-first}
use Rattle.model.proofs.Laws.Checks.{network-accepted}
use Rattle.model.proofs.Laws.Refusal.{both-accepted, unless-accepted, or-else-next, or-else-refused, unless-accepts, unless-refuses}
use Rattle.model.specs.Checks.{network_lists, network_check, room_check}
use Rattle.model.specs.Limits.{max_nodes}
use Rattle.model.specs.Network.{Network}
use Rattle.model.specs.Refusal.{or_else, unless, Check, accepted, refusal}
use Rattle.distance.specs.Answers.{distance_row, table_rows, table, table_check, TableAnswered}
use Rattle.distance.specs.Table.{Fillable, RowsHold, RowsKnown, filled_row}
use Rattle.distance.proofs.Laws.Rows.{in_rows, row-length, row_at}
use Rattle.model.specs.Distance.{code}
use Rattle.model.specs.NodeDistance.{bounded_distance}
use native.Mathlib.Decide.{ℕ_discrete}
use Rattle.model.proofs.Laws.Answer.{written-accepted}

-- the square of a number of 32 bits
pub square-small : {n : ℕ} → n ≤ 4294967295 → n * n ≤ 4294967295 * 4294967295
square-small h = mul-le-mul h h

module _ (net : Network) (wanted rows : List ℕ) where
  -- the list of wanted nodes is not as long as it should be
  pub wanted-differs : (length wanted ≡ net.nodes → ⊥) → refusal ListsDiffer 0 ≡ table_check net wanted rows
  unfolding table_check
  wanted-differs n = sym (lists-first net (or-else-refused _ (unless-refuses _ ListsDiffer 0 (ne_eqb _ _ n))))

  module _ (same : length wanted ≡ net.nodes) where
    past-wanted : (rest : Check) → or_else (network_lists net) rest ≡ or_else (network_lists net) (or_else (unless (eqb (length wanted) net.nodes) ListsDiffer 0) rest)
    past-wanted rest = ap (or_else (network_lists net)) (sym (or-else-next rest (unless-accepts _ ListsDiffer 0 (eq-eqb _ _ same))))

    -- the table is too short
    pub table-short : length rows < net.nodes * net.nodes → refusal ListsDiffer 0 ≡ table_check net wanted rows
    unfolding table_check room_check
    table-short h = sym (lists-first net (or-else-refused _ (unless-refuses _ ListsDiffer 0 (lt-leb _ _ h)))) ∙ past-wanted _

    -- both fit: the network decides
    pub table-roomy : net.nodes * net.nodes ≤ length rows → network_check net ≡ table_check net wanted rows
    unfolding table_check room_check network_check
    table-roomy h = ap (or_else (network_lists net)) (sym (or-else-next _ (unless-accepts _ ListsDiffer 0 (le-leb _ _ h)))) ∙ past-wanted _

  -- accepted: the table can be filled
  pub table-accepted : table_check net wanted rows ≡ accepted → Fillable net wanted rows
  unfolding table_check room_check
  table-accepted e =
      let past-lists = (both-accepted _ _ e).1 in
      let same = eqb-true _ _ (unless-accepted _ ListsDiffer 0 (both-accepted _ _ past-lists).0) in
      let room = leb-true _ _ (unless-accepted _ ListsDiffer 0 (both-accepted _ _ (both-accepted _ _ past-lists).1).0) in
      record { accepted = table-roomy same room ∙ e; wanted_length = same; room = room }

-- the entry for the node of row k in the row of an earlier node y lies inside the table
pub record EarlierEntry (net : Network) (wanted : List ℕ) (k y : ℕ) (rows : List ℕ) : Type 0 where
  pub in-wanted : y < length wanted
  pub inside : y * net.nodes + k < length rows
  pub small : y * net.nodes + k < max_nodes * max_nodes
  pub node : suc y ≤ net.nodes
  pub few : net.nodes ≤ max_nodes

pub earlier-entry : {net : Network} {bound k y : ℕ} {wanted rows : List ℕ} → RowsKnown net bound wanted k rows → y < k → EarlierEntry net wanted k y rows
earlier-entry {net} {k = k} {y} r h =
    let few = (network-accepted net r.fits.accepted).nodes_to in
    let place = in_rows net.nodes net.nodes y k (omega (arith, r.in_rows)) r.in_rows in
    record {
      in-wanted = omega (arith, r.fits.wanted_length, r.in_rows);
      inside = omega (arith, r.fits.room);
      small = omega (arith, mul-le-mul {n₁ = net.nodes} {m₁ = net.nodes} {n₂ = max_nodes} {m₂ = max_nodes} few few);
      node = omega (arith, r.in_rows);
      few = few;
    }

-- the next row ends inside the table, at a small index
pub record RowEnd (net : Network) (at : ℕ) (rows : List ℕ) : Type 0 where
  pub inside : at + net.nodes ≤ length rows
  pub small : at + net.nodes ≤ max_nodes * max_nodes

pub row-end : {net : Network} {bound k at : ℕ} {wanted rows : List ℕ} → RowsKnown net bound wanted k rows → at ≡ k * net.nodes → RowEnd net at rows
row-end {net} {k = k} r is =
    let few = (network-accepted net r.fits.accepted).nodes_to in
    let next = mul-le-mul_right {m = suc k} {n = net.nodes} net.nodes r.in_rows in
    record {
      inside = omega (arith, suc-mul k net.nodes, r.fits.room);
      small = omega (arith, suc-mul k net.nodes, mul-le-mul {n₁ = net.nodes} {m₁ = net.nodes} {n₂ = max_nodes} {m₂ = max_nodes} few few);
    }

module _ (net : Network) (bound : ℕ) (wanted : List ℕ) (k : ℕ) (rows : List ℕ) where
  filled_is : filled_row net bound wanted k rows ≡ cond (eqb (get_or wanted k 0) 0) (take net.nodes (drop (k * net.nodes) rows)) (distance_row net bound (suc k))
  unfolding filled_row
  filled_is = refl

  -- a row that is not wanted stays
  row_kept : get_or wanted k 0 ≡ 0 → filled_row net bound wanted k rows ≡ take net.nodes (drop (k * net.nodes) rows)
  unfolding filled_row
  row_kept e = rw (eq-eqb _ _ e)

  row-found : (get_or wanted k 0 ≡ 0 → ⊥) → filled_row net bound wanted k rows ≡ distance_row net bound (suc k)
  unfolding filled_row
  row-found some = rw (ne_eqb _ _ some)

  pub row_stays : {at : ℕ} → at ≡ k * net.nodes → get_or wanted k 0 ≡ 0 → rows ≡ take at rows ++ (filled_row net bound wanted k rows ++ drop (at + net.nodes) rows)
  row_stays {at} is e =
      sym (take-append-drop at rows)
      ∙ ap (λ (l : List ℕ). take at rows ++ l) (sym (take-append-drop net.nodes (drop at rows)) ∙ rw (drop-drop net.nodes at rows, row_kept e, is))

  -- a wanted one is copied over the whole of the old one, m entries from at on
  pub row_made : (at : ℕ) {m : ℕ} {from part : List ℕ} → m ≡ net.nodes → (get_or wanted k 0 ≡ 0 → ⊥) → from ≡ distance_row net bound (suc k) → at + net.nodes ≤ length rows → part ≡ from ++ drop net.nodes (take m (drop at rows)) → take at rows ++ (part ++ drop m (drop at rows)) ≡ take at rows ++ (filled_row net bound wanted k rows ++ drop (at + net.nodes) rows)
  row_made at {m} {from} {part} is some made inside copied =
      ap (λ (l : List ℕ). take at rows ++ l)
      (ap (λ (l : List ℕ). l ++ drop m (drop at rows)) whole ∙ ap (λ (l : List ℕ). filled_row net bound wanted k rows ++ l) (ap (λ (i : ℕ). drop i (drop at rows)) is ∙ drop-drop net.nodes at rows))
    where
      short : length (take m (drop at rows)) ≤ net.nodes
      short = omega (arith, length-take-le m (drop at rows) (rw length-drop (omega arith)))

      whole : part ≡ filled_row net bound wanted k rows
      whole =
          copied
          ∙ ap (λ (l : List ℕ). from ++ l) (drop_of_length-le (take m (drop at rows)) {i = net.nodes} short)
          ∙ append-nil from ∙ made ∙ sym (row-found some)

  filled-long : k * net.nodes + net.nodes ≤ length rows → length (filled_row net bound wanted k rows) ≡ net.nodes
  filled-long inside = go (ℕ_discrete (get_or wanted k 0) 0)
    where
      go : Dec (get_or wanted k 0 ≡ 0) → length (filled_row net bound wanted k rows) ≡ net.nodes
      go (yes e) = rw (row_kept e) (length-take-le net.nodes (drop (k * net.nodes) rows) (rw length-drop (omega arith)))
      go (no e) = rw (row-found e) (row-length net bound (suc k))

  -- one row more holds its distances
  pub hold-next : RowsHold net bound wanted k rows → {at : ℕ} → at ≡ k * net.nodes → at + net.nodes ≤ length rows → RowsHold net bound wanted (k + 1) (take at rows ++ (filled_row net bound wanted k rows ++ drop (at + net.nodes) rows))
  hold-next hold {at} is inside y v h l some = go (ℕ_discrete y k)
    where
      rest : List ℕ
      rest = filled_row net bound wanted k rows ++ drop (at + net.nodes) rows

      long : length (take at rows) ≡ at
      long = length-take-le at rows (omega arith)

      go : Dec (y ≡ k) → get_or (take at rows ++ rest) (y * net.nodes + v) 0 ≡ code (bounded_distance net bound (suc y) (suc v))
      go (yes e) =
          ap (λ (j : ℕ). get_or (take at rows ++ rest) (j * net.nodes + v) 0) e
          ∙ ap (λ (j : ℕ). get_or (take at rows ++ rest) (j + v) 0) (sym is)
          ∙ sym (get_or-drop at (take at rows ++ rest) v 0)
          ∙ ap (λ (l : List ℕ). get_or l v 0) (drop_at (take at rows) rest at long)
          ∙ get_or-append (filled_row net bound wanted k rows) _ 0 v (omega (arith, filled-long (omega arith)))
          ∙ ap (λ (l : List ℕ). get_or l v 0) (row-found (λ q. some (ap (λ (j : ℕ). get_or wanted j 0) e ∙ q)))
          ∙ row_at net bound (suc k) (suc v) (record { from_one = omega arith; to_nodes = omega arith })
          ∙ ap (λ (j : ℕ). code (bounded_distance net bound (suc j) (suc v))) (sym e)
      go (no e) =
          let before = in_rows net.nodes k y v (omega arith) l in
          get_or-append (take at rows) rest 0 (y * net.nodes + v) (omega (arith, long))
          ∙ get_or-take at rows (y * net.nodes + v) 0 (omega arith)
          ∙ hold y v (omega arith) l some

-- the first k rows have been filled, up to index at; left rows are still to come
pub record Filled (net : Network) (bound : ℕ) (wanted old : List ℕ) (k at : ℕ) (rows : List ℕ) : Type 0 where
  pub same_length : length rows ≡ length old
  pub at-is : at ≡ k * net.nodes
  pub left : ℕ
  pub all : k + left ≡ net.nodes
  pub so_far : table net bound wanted old ≡ take at rows ++ table_rows net bound wanted old (suc k) left
  pub rest : drop at rows ≡ drop at old

module _ (net : Network) (bound : ℕ) (wanted old : List ℕ) where
  pub fill_none : Filled net bound wanted old 0 0 old
  unfolding table
  fill_none = record { same_length = refl; at-is = omega arith; left = net.nodes; all = omega arith; so_far = refl; rest = refl }

  -- what the next row is filled by
  pub fill_known : {k at : ℕ} {rows : List ℕ} → Fillable net wanted old → Filled net bound wanted old k at rows → RowsHold net bound wanted k rows → k < net.nodes → RowsKnown net bound wanted k rows
  fill_known fits f hold h =
      record {
        fits = record { accepted = fits.accepted; wanted_length = fits.wanted_length; room = omega (arith, fits.room, f.same_length) };
        in_rows = h;
        hold = hold;
      }

  -- one row more
  pub fill_more : {k at : ℕ} {rows : List ℕ} (row : List ℕ) → Filled net bound wanted old k at rows → k < net.nodes → at + net.nodes ≤ length rows → length row ≡ net.nodes → row ≡ cond (eqb (get_or wanted k 0) 0) (take net.nodes (drop at rows)) (distance_row net bound (suc k)) → Filled net bound wanted old (k + 1) (at + net.nodes) (take at rows ++ (row ++ drop (at + net.nodes) rows))
  unfolding table_rows
  fill_more {k} {at} {rows} row f h inside long is = go f.left refl
    where
      front : length (take at rows ++ row) ≡ at + net.nodes
      front = length-append (take at rows) row ∙ omega (arith, length-take-le at rows (omega arith))

      whole : take at rows ++ (row ++ drop (at + net.nodes) rows) ≡ (take at rows ++ row) ++ drop (at + net.nodes) rows
      whole = sym (append_assoc (take at rows) row (drop (at + net.nodes) rows))

      this : row ≡ cond (eqb (get_or wanted k 0) 0) (take net.nodes (drop (k * net.nodes) old)) (distance_row net bound (suc k))
      this = is ∙ ap (λ (l : List ℕ). cond (eqb (get_or wanted k 0) 0) (take net.nodes l) (distance_row net bound (suc k))) (f.rest ∙ ap (λ (i : ℕ). drop i old) f.at-is)

      go : (left : ℕ) → f.left ≡ left → Filled net bound wanted old (k + 1) (at + net.nodes) (take at rows ++ (row ++ drop (at + net.nodes) rows))
      go zero e = absurd (omega (arith, f.all))
      go (suc left) e =
          record {
            same_length = ap length whole ∙ length-append (take at rows ++ row) (drop (at + net.nodes) rows) ∙ omega (arith, front, length-drop (at + net.nodes) rows, f.same_length);
            at-is = omega (arith, f.at-is, suc-mul k net.nodes, ap (λ (j : ℕ). j * net.nodes) (add-one k));
            left = left;
            all = omega (arith, f.all);
            so_far = f.so_far
                ∙ ap (λ (n : ℕ). take at rows ++ table_rows net bound wanted old (suc k) n) e
                ∙ ap (λ (l : List ℕ). take at rows ++ (l ++ table_rows net bound wanted old (suc (suc k)) left)) (sym this)
                ∙ sym (append_assoc (take at rows) row (table_rows net bound wanted old (suc (suc k)) left))
                ∙ sym (rw (whole, take_at (take at rows ++ row) (drop (at + net.nodes) rows) (at + net.nodes) front, add-one k));
            rest = ap (drop (at + net.nodes)) whole
                ∙ drop_at (take at rows ++ row) (drop (at + net.nodes) rows) (at + net.nodes) front
                ∙ sym (drop-drop net.nodes at rows)
                ∙ ap (drop net.nodes) f.rest
                ∙ drop-drop net.nodes at old;
          }

  -- the next row as it is filled
  pub fill-next : {k at : ℕ} {rows : List ℕ} → Filled net bound wanted old k at rows → k < net.nodes → at + net.nodes ≤ length rows → Filled net bound wanted old (k + 1) (at + net.nodes) (take at rows ++ (filled_row net bound wanted k rows ++ drop (at + net.nodes) rows))
  fill-next {k} {at} {rows} f h inside =
      fill_more (filled_row net bound wanted k rows) f h inside
      (filled-long net bound wanted k rows (omega (arith, f.at-is)))
      (rw f.at-is (filled_is net bound wanted k rows))

  -- all rows
  pub fill-all : {k at : ℕ} {rows : List ℕ} → Filled net bound wanted old k at rows → k ≡ net.nodes → rows ≡ table net bound wanted old ++ drop (net.nodes * net.nodes) old
  unfolding table_rows
  fill-all {k} {at} {rows} f e =
      let none_left : f.left ≡ 0 = omega (arith, f.all) in
      let filled : table net bound wanted old ≡ take at rows = f.so_far ∙ rw (none_left, append-nil) in
      let end : at ≡ net.nodes * net.nodes = f.at-is ∙ ap (λ (j : ℕ). j * net.nodes) e in
      sym (take-append-drop at rows) ∙ ap (λ (l : List ℕ). take at rows ++ l) (f.rest ∙ ap (λ (i : ℕ). drop i old) end) ∙ ap (λ (l : List ℕ). l ++ drop (net.nodes * net.nodes) old) (sym filled)

  -- an accepted table that is filled so and keeps its length is the answer
  pub table-answered : {r : Check} {new : List ℕ} → r ≡ table_check net wanted old → r ≡ accepted → new ≡ table net bound wanted old ++ drop (net.nodes * net.nodes) old → length new ≡ length old → TableAnswered net bound wanted old r new
  table-answered {new = new} verdict past filled same =
      let accepted = sym verdict ∙ past in
      let long : length (table net bound wanted old) ≡ net.nodes * net.nodes = omega (arith, simp (length-append, length-drop) at (ap length filled), (table-accepted net wanted old accepted).room) in
      record { verdict = verdict; after = written-accepted (table net bound wanted old) old new accepted long filled }
