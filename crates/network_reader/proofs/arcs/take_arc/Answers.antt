use native.Mathlib.Omega.{arith}
use Rattle.std.proofs.Common.{◌≡◌, refl, sym, ap, ◌∙◌, Some, Err, rules}
use Rattle.std.specs.Result.{result_ok}
use Rattle.reading.proofs.Mapped.{none_there}
use Rattle.network_reader.specs.Steps.{Sound}
use Rattle.network_reader.proofs.ArcLines.{bounds_of, arc-misplaced, arc-refused, arc-not-turned, arc-surplus, arc-taken}
use Rattle.network_reader.proofs.arcs.take_arc.Goals.{In_ok-before}
use Rattle.network_reader.proofs.arcs.take_arc.Goals as goal

-- what was seen is there, and within its bounds
is_some : (c : In_ok-before) → c.args.seen ≡ Some c.in_ok-before.before
is_some c = c.ok_or.ensures.ok_part ∙ ap result_ok c.in_ok-before.was

sound : (c : In_ok-before) → Sound (Some c.in_ok-before.before)
sound c = rw (is_some c) at c.requires.0

pub returns-in_err-before : goal.returns-in_err-before
returns-in_err-before c =
    let told : c.from_residual.result ≡ Err c.in_err-before.field-0.0 = search rules in
    let none = none_there _ _ (sym c.ok_or.ensures.value ∙ c.in_err-before.was) in
    rw (told, none.1) (arc-misplaced _ _ _ none.0 refl)

pub returns-in_err-check_arc : goal.returns-in_err-check_arc
returns-in_err-check_arc c =
    let told : c.from_residual-in_err-check_arc.result ≡ Err c.in_err-check_arc.field-0.0 = search rules in
    rw (told, is_some (goal.at.returns-in_err-check_arc c).In_ok-before) (arc-refused (sound (goal.at.returns-in_err-check_arc c).In_ok-before) c.requires.1 c.check_arc.ensures c.in_err-check_arc.was)

pub is_turned-requires : goal.is_turned-requires
is_turned-requires c = let b = bounds_of (sound (goal.at.is_turned-requires c).In_ok-before) in
    (omega (arith, b.no_more, b.few), c.requires.1)

pub returns-then-not-is_turned : goal.returns-then-not-is_turned
returns-then-not-is_turned c = rw (is_some (goal.at.returns-then-not-is_turned c).In_ok-before) (arc-not-turned (sound (goal.at.returns-then-not-is_turned c).In_ok-before) c.requires.1 c.check_arc.ensures c.in_ok-check_arc.was (sym c.is_turned.ensures ∙ c.if-not-is_turned.true))

pub returns-then-before : goal.returns-then-before
returns-then-before c = rw (is_some (goal.at.returns-then-before c).In_ok-before) (arc-surplus (sound (goal.at.returns-then-before c).In_ok-before) c.requires.1 c.check_arc.ensures c.in_ok-check_arc.was (sym c.is_turned.ensures ∙ c.if-not-is_turned.false) c.if-before.true)

pub store-requires : goal.store-requires
store-requires c = (omega (arith, (bounds_of (sound (goal.at.store-requires c).In_ok-before)).few), c.requires.1, sym c.is_turned.ensures ∙ c.if-not-is_turned.false)

pub returns : goal.returns
returns c = rw (is_some (goal.at.returns c).In_ok-before) (arc-taken (sound (goal.at.returns c).In_ok-before) c.requires.1 c.check_arc.ensures c.in_ok-check_arc.was (sym c.is_turned.ensures ∙ c.if-not-is_turned.false) c.if-before.false c.store.ensures)
