-- The numbers of the thresholds passed have been added to their totals, and the last of them to all totals behind.
use native.Mathlib.Numerals.{add-one}
use native.Mathlib.Omega.{arith}
use Rattle.edge_pair.proofs.Laws.Totals.{added-as, running-from, running-next, running-all}
use Rattle.neighbor_sharing.proofs.Laws.Within.{within-reached}
use Rattle.neighbor_sharing.proofs.pairs.add_pairs.Goals as goal

pub returns-then-xs-gt-MAX_EVENTS : goal.returns-then-xs-gt-MAX_EVENTS
returns-then-xs-gt-MAX_EVENTS c = record { added = λ few. absurd (omega arith); added_2 = λ laid. absurd (omega (arith, laid.first_laid.few)) }

pub returns-then-ys-gt-MAX_EVENTS : goal.returns-then-ys-gt-MAX_EVENTS
returns-then-ys-gt-MAX_EVENTS c = record { added = λ few-xs few. absurd (omega arith); added_2 = λ laid. absurd (omega (arith, laid.second_laid.few)) }

pub loop-k-init : goal.loop-k-init
loop-k-init c = running-from 0 _ _ (λ j h. absurd (omega arith))

pub count_within-found-requires : goal.count_within-found-requires
count_within-found-requires c = (c.shortest_route-shortest.ensures, c.if-xs-gt-MAX_EVENTS.false, c.if-ys-gt-MAX_EVENTS.false)

pub loop-k-preserved : goal.loop-k-preserved
loop-k-preserved c = rw (add-one c.loop-k.k) (running-next c.loop-k.invariant c.change_from.ensures c.count_within-found.ensures)

pub shape_of-totals : goal.shape_of-totals
shape_of-totals c = c.loop-k.invariant.same_length

pub returns : goal.returns
returns c = let added = running-all _ c.loop-k.invariant c.loop-k-test.false in
    record { added = λ few-xs few-ys. added; added_2 = λ laid. added-as (λ k h. within-reached _ (c.type_inv.thresholds k).fits _ _ _ laid) added }
