-- The least of several keys, and what the least key of the front says.
use mathlib.Core.List.{List}
use mathlib.Core.Path.{◌≡◌, ◌∙◌, refl, sym, ap, subst}
use Prim.Native.Nat.{ℕ, ◌+◌, ◌*◌, ◌/◌, ◌%◌, ◌≤◌, ◌<◌, min}
use native.Mathlib.Decide.{dec_lt}
use native.Mathlib.Omega.{arith, min_cases}
use lib.ListN.{get_or}
use Rattle.distance.specs.Keys.{Least, Keyed}

-- one key alone
pub one_key : (keys : List ℕ) (len k next : ℕ) → k < len → next ≡ k + 1 → Least keys len k next (get_or keys k 0)
one_key keys len k next h e = record { place = k; inside = h; is = refl; least = λ j l m. omega (arith, ap (λ (i : ℕ). get_or keys i 0) (there j l m)) }
  where
    there : (j : ℕ) → k ≤ j → j < next → j ≡ k
    there j l m = omega arith

-- no key yet
pub no_key : (keys : List ℕ) (len : ℕ) → 1 ≤ len → Least keys len 0 0 (get_or keys 0 0)
no_key keys len h = record { place = 0; inside = h; is = refl; least = λ j l m. omega arith }

-- the lesser of the least of two parts that meet
pub join : {keys : List ℕ} {len from mid to x y r : ℕ} → Least keys len from mid x → Least keys len mid to y → r ≡ min x y → Least keys len from to r
join {keys} {len} {from} {mid} {to} {x} {y} {r} a b e = min_cases x y (Least keys len from to r) first second
  where
    least : r ≤ x → r ≤ y → (j : ℕ) → from ≤ j → j < to → Dec (j < mid) → r ≤ get_or keys j 0
    least p q j low high (yes h) = omega (arith, a.least j low h)
    least p q j low high (no h) = omega (arith, b.least j (omega arith) high)

    first : x ≤ y → min x y ≡ x → Least keys len from to r
    first l m = record { place = a.place; inside = a.inside; is = a.is ∙ sym (e ∙ m); least = λ j low high. least (omega arith) (omega arith) j low high (dec_lt j mid) }

    second : y ≤ x → min x y ≡ y → Least keys len from to r
    second l m = record { place = b.place; inside = b.inside; is = b.is ∙ sym (e ∙ m); least = λ j low high. least (omega arith) (omega arith) j low high (dec_lt j mid) }

-- the same end, written in another way
pub ends_at : {keys : List ℕ} {len from to to' key : ℕ} → Least keys len from to key → to ≡ to' → Least keys len from to' key
ends_at {keys} {len} {from} {key = key} x e = subst (λ (n : ℕ). Least keys len from n key) e x

-- a key's two halves
halves : (d k key : ℕ) → key ≡ d * 4294967296 + k → k < 4294967296 → (key % 4294967296 ≡ k) × (key / 4294967296 ≡ d)
halves d k key e h = (omega arith, omega arith)

-- the order of keys is that of their entries
entries-order : (d e j k : ℕ) → d * 4294967296 + j ≤ e * 4294967296 + k → k < 4294967296 → d ≤ e
entries-order d e j k h l = omega arith

-- what the least key of the front says: the place of a waiting node, its entry, and that no entry is lesser
pub record Nearest (dist front : List ℕ) (len place entry : ℕ) : Type 0 where
  pub inside : place < len
  pub is : get_or dist (get_or front place 0) 0 ≡ entry
  pub nearest : (j : ℕ) → j < len → entry ≤ get_or dist (get_or front j 0) 0

pub least-is-nearest : {nodes : ℕ} {dist front keys slots : List ℕ} {len key place entry : ℕ} → Keyed nodes dist front keys slots len → Least keys len 0 len key → len ≤ 512 → place ≡ key % 4294967296 → entry ≡ key / 4294967296 → Nearest dist front len place entry
least-is-nearest {nodes} {dist} {front} {keys} {slots} {len} {key} {place} {entry} q x few at_place is-entry =
    let h = halves (get_or dist (get_or front x.place 0) 0) x.place key (sym x.is ∙ q.key_at x.place x.inside) (omega (arith, x.inside)) in
    let here : place ≡ x.place = at_place ∙ h.0 in
    let worth : entry ≡ get_or dist (get_or front x.place 0) 0 = is-entry ∙ h.1 in
    record {
      inside = omega (arith, x.inside);
      is = ap (λ (k : ℕ). get_or dist (get_or front k 0) 0) here ∙ sym worth;
      nearest = λ j l. omega (arith, entries-order (get_or dist (get_or front x.place 0) 0) (get_or dist (get_or front j 0) 0) x.place j (omega (arith, x.least j (omega arith) l, x.is, q.key_at x.place x.inside, q.key_at j l)) (omega arith));
    }
