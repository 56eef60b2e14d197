-- `search_with`: see proofs/Turns for its start and its picks, proofs/Least for its scan, proofs/Stops for its end.
use Prim.Native.Nat.{ℕ, suc, ◌-◌}
use Rattle.distance.proofs.Least.{one_key, join, ends_at}
use Rattle.distance.proofs.Offer.{few}
use Rattle.distance.proofs.Slots.{ready-again}
use Rattle.distance.proofs.Stops.{searched, searched-all}
use Rattle.distance.proofs.Turns.{turn-start, all-few, keys-fit, waits, turn-nearest, nearest-reached, removable, turn-ready, turn-pick, turn-keyed}
use Rattle.distance.specs.Keys.{Least}
use Rattle.model.proofs.Laws.Zeros.{cleared}
use lib.ListN.{length, length-set}
use mathlib.Core.Path.{◌≡◌, ◌∙◌, refl}
use native.Mathlib.Omega.{arith}
use Rattle.distance.proofs.search.search_with.Goals.{Else-len-eq0, then-len-eq0, else-len-eq0+then-bound-least}
use Rattle.distance.proofs.search.search_with.Goals as goal

-- the scan has found the least key
found : (c : Else-len-eq0) → Least c.picking.keys c.picking.len 0 c.picking.len c.loop-k.key
found c = ends_at (c.loop-k.invariant.1 (omega (arith, c.if-len-eq0.false))) c.if-k-len.true

pub bounds-dist-source : goal.bounds-dist-source
bounds-dist-source c = omega (arith, c.requires.ready.room, c.requires.ready.source_is.to_nodes, c.fill.auto.self)

pub bounds-front-0 : goal.bounds-front-0
bounds-front-0 c = omega (arith, c.requires.ready.front_room, c.requires.ready.source_is)

pub bounds-keys-0 : goal.bounds-keys-0
bounds-keys-0 c = omega (arith, c.requires.max_nodes_in_bounds.0)

pub bounds-slots-source : goal.bounds-slots-source
bounds-slots-source c = omega (arith, c.requires.max_nodes_in_bounds.1, c.requires.ready.few_nodes, c.requires.ready.source_is.to_nodes)

pub picking-init : goal.picking-init
picking-init c = (turn-start _ c.fill.new.self c.args.keys.now c.args.slots.now _ c.requires.ready c.requires.max_nodes_in_bounds.0 c.requires.max_nodes_in_bounds.1 c.fill.auto.self (cleared (length c.args.dist.now) (c.fill.ensures.after (λ y e. e))) c.key_of.ensures, refl, refl, refl, refl)

pub least_of_fours-key-requires : goal.least_of_fours-key-requires
least_of_fours-key-requires c = (omega (arith, c.picking.invariant.0.keyed.keys_room, c.picking.invariant.0.ready.source_is.from_one, c.picking.invariant.0.ready.source_is.to_nodes), keys-fit c.picking.invariant.0)

pub overflow_mul-k : goal.overflow_mul-k
overflow_mul-k c = omega (arith, all-few c.picking.invariant.0)

pub loop-k-init : goal.loop-k-init
loop-k-init c = (omega arith, c.least_of_fours-key.ensures)

pub offset_bounds-keys-k : goal.offset_bounds-keys-k
offset_bounds-keys-k c = omega (arith, all-few c.picking.invariant.0, c.loop-k.invariant.0)

pub bounds-keys-k : goal.bounds-keys-k
bounds-keys-k c = omega (arith, keys-fit c.picking.invariant.0, c.loop-k.invariant.0, c.if-k-len.false)

pub overflow_add-k : goal.overflow_add-k
overflow_add-k c = omega (arith, all-few c.picking.invariant.0, c.loop-k.invariant.0)

pub loop-k-smaller : goal.loop-k-smaller
loop-k-smaller c = omega (arith, c.loop-k.invariant.0, c.if-k-len.false)

pub loop-k-preserved : goal.loop-k-preserved
loop-k-preserved c = (omega (arith, c.loop-k.invariant.0, c.if-k-len.false), λ some. join (c.loop-k.invariant.1 some) (one_key _ _ _ _ (omega (arith, c.loop-k.invariant.0, c.if-k-len.false)) refl) c.min-key.ensures)

pub overflow_sub-least : goal.overflow_sub-least
overflow_sub-least c = omega (arith, nearest-reached c.picking.invariant.0 (turn-nearest c.picking.invariant.0 (found (goal.at.overflow_sub-least c).Else-len-eq0) refl c.entry_of-least.ensures))

pub offset_bounds-front-best : goal.offset_bounds-front-best
offset_bounds-front-best c = omega (arith, waits c.picking.invariant.0 c.place_of-best.result (turn-nearest c.picking.invariant.0 (found (goal.at.offset_bounds-front-best c).Else-len-eq0) c.place_of-best.ensures c.entry_of-least.ensures).inside)

pub bounds-front-best : goal.bounds-front-best
bounds-front-best c = omega (arith, waits c.picking.invariant.0 c.place_of-best.result (turn-nearest c.picking.invariant.0 (found (goal.at.bounds-front-best c).Else-len-eq0) c.place_of-best.ensures c.entry_of-least.ensures).inside)

pub remove-requires : goal.remove-requires
remove-requires c = let r = removable c.picking.invariant.0 (turn-nearest c.picking.invariant.0 (found (goal.at.remove-requires c).Else-len-eq0) c.place_of-best.ensures c.entry_of-least.ensures) (c.picking.len - 1) (omega arith) in
    record { place_le_last = r.0; last_in_bounds = r.1 }

pub overflow_add-picked : goal.overflow_add-picked
overflow_add-picked c = omega (arith, all-few c.picking.invariant.0)

pub follow-len-requires : goal.follow-len-requires
follow-len-requires c = let t = c.picking.invariant.0 in
    let x = (turn-nearest c.picking.invariant.0 (found (goal.at.follow-len-requires c).Else-len-eq0) c.place_of-best.ensures c.entry_of-least.ensures) in
    let last : c.picking.len ≡ suc (c.picking.len - 1) = omega arith in
    record {
      ready = turn-ready t x last c.remove.ensures;
      following = turn-pick t x last c.remove.ensures (omega arith);
      keyed = (turn-keyed t x last c.remove.ensures, x.is);
    }

pub picking-smaller : goal.picking-smaller
picking-smaller c = omega (arith, few c.picking.invariant.0.state)

pub picking-preserved : goal.picking-preserved
picking-preserved c = let i = c.picking.invariant in
    let f = c.follow-len.auto in
    let r = c.remove.auto in (
      record { ready = ready-again _ _ i.0.ready f.dist (f.front ∙ r.front); state = c.follow-len.ensures.state; keyed = c.follow-len.ensures.keyed_2 },
      f.dist ∙ i.1,
      f.front ∙ r.front ∙ i.2,
      f.keys ∙ r.keys ∙ i.3,
      f.slots ∙ r.slots ∙ i.4,
    )

pub shape_of-dist-in-Exhausted : goal.shape_of-dist-in-Exhausted
shape_of-dist-in-Exhausted c = c.picking.invariant.1 ∙ simp length-set c.fill.auto.self

pub shape_of-front-in-Exhausted : goal.shape_of-front-in-Exhausted
shape_of-front-in-Exhausted c = c.picking.invariant.2 ∙ simp length-set

pub shape_of-keys-in-Exhausted : goal.shape_of-keys-in-Exhausted
shape_of-keys-in-Exhausted c = c.picking.invariant.3 ∙ simp length-set

pub shape_of-slots-in-Exhausted : goal.shape_of-slots-in-Exhausted
shape_of-slots-in-Exhausted c = c.picking.invariant.4 ∙ simp length-set

pub returns-in-Exhausted : goal.returns-in-Exhausted
returns-in-Exhausted c = let t = c.picking.invariant.0 in
    elim c.if-len-eq0.branch [
      | then-len-eq0 w ↦ searched-all t.ready.ends t.ready.few_nodes t.state w.if-len-eq0.true
      | else-len-eq0+then-bound-least w ↦ let z : ◌≡◌ {A = ℕ} 0 1 = cc (w.stop-is, c.in-Exhausted.is) in absurd (omega arith)
    ]

pub shape_of-dist-in-Beyond : goal.shape_of-dist-in-Beyond
shape_of-dist-in-Beyond c = c.clip.auto.dist ∙ c.picking.invariant.1 ∙ simp length-set c.fill.auto.self

pub shape_of-front-in-Beyond : goal.shape_of-front-in-Beyond
shape_of-front-in-Beyond c = c.picking.invariant.2 ∙ simp length-set

pub shape_of-keys-in-Beyond : goal.shape_of-keys-in-Beyond
shape_of-keys-in-Beyond c = c.picking.invariant.3 ∙ simp length-set

pub shape_of-slots-in-Beyond : goal.shape_of-slots-in-Beyond
shape_of-slots-in-Beyond c = c.picking.invariant.4 ∙ simp length-set

pub returns-in-Beyond : goal.returns-in-Beyond
returns-in-Beyond c = let t = c.picking.invariant.0 in
    searched t.ready.ends t.ready.few_nodes t.state
    (elim c.if-len-eq0.branch [
      | then-len-eq0 w ↦ λ j h. let none = w.if-len-eq0.true in absurd (omega arith)
      | else-len-eq0+then-bound-least w ↦ λ j h.
          let found : Least c.picking.keys c.picking.len 0 c.picking.len c.loop-k.key = ends_at (c.loop-k.invariant.1 (omega (arith, w.if-len-eq0.false))) c.if-k-len.true in
          let over = w.if-bound-least.true in
          omega (arith, (turn-nearest t found refl w.entry_of-least.ensures).nearest j h)
    ])
    _ c.clip.ensures
