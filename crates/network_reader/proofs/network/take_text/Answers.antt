use native.Mathlib.Omega.{arith}
use Rattle.std.proofs.Common.{◌≡◌, sym, ◌∙◌, Err, rules}
use Rattle.text.proofs.Laws.Parallel.{level-kept}
use Rattle.text.proofs.Laws.Lines.{feed-next}
use Rattle.reading.proofs.Mapped.{value-kept, error-mapped}
use Rattle.reading.proofs.Progress.{line-long, less-left}
use Rattle.network_reader.proofs.NetworkRows.{lines-begin, one-taken, one-refused, lines_end}
use Rattle.network_reader.proofs.network.take_text.Goals as goal

pub loop-at-init : goal.loop-at-init
loop-at-init c = lines-begin _ _ _ _ c.requires

pub slice_bounds-take_line-end : goal.slice_bounds-take_line-end
slice_bounds-take_line-end c = line-long c.loop-at.invariant.progress c.loop-at-test.true (feed-next c.feed_line-line.ensures)

pub take_line-requires : goal.take_line-requires
take_line-requires c = (c.loop-at.invariant.sound, c.loop-at.invariant.level)

pub returns-in_err-seen : goal.returns-in_err-seen
returns-in_err-seen c =
    let told : c.from_residual.result ≡ Err c.in_err-seen.field-0.0 = search rules in
    let mapped = error-mapped _ _ _ c.map_err.ensures.cases c.in_err-seen.was in
    let placed : c.in_err-seen.field-0.0 ≡ record { fault = mapped.0; place = c.loop-at.place } = search rules in
    rw (told, placed) (one-refused c.loop-at.invariant c.loop-at-test.true (feed-next c.feed_line-line.ensures) c.take_line.ensures mapped.1)

pub overflow_add-at : goal.overflow_add-at
overflow_add-at c = omega (arith, (feed-next c.feed_line-line.ensures).inside)

pub overflow_add-place : goal.overflow_add-place
overflow_add-place c = omega (arith, c.loop-at.invariant.progress.small, c.loop-at.invariant.progress.within)

pub loop-at-smaller : goal.loop-at-smaller
loop-at-smaller c = less-left c.loop-at.invariant.progress c.loop-at-test.true (feed-next c.feed_line-line.ensures)

pub loop-at-preserved : goal.loop-at-preserved
loop-at-preserved c = one-taken c.loop-at.invariant c.loop-at-test.true (feed-next c.feed_line-line.ensures) c.take_line.ensures (value-kept _ _ _ c.map_err.ensures.cases c.in_ok-seen.was)
    (level-kept c.loop-at.invariant.level c.take_line.auto.firsts c.take_line.auto.seconds c.take_line.auto.lengths)

pub end-requires : goal.end-requires
end-requires c = c.loop-at.invariant.sound

pub shape_of-firsts : goal.shape_of-firsts
shape_of-firsts c = c.loop-at.invariant.level.one ∙ sym c.requires.one

pub shape_of-seconds : goal.shape_of-seconds
shape_of-seconds c = c.loop-at.invariant.level.two ∙ sym c.requires.two

pub shape_of-lengths : goal.shape_of-lengths
shape_of-lengths c = c.loop-at.invariant.level.three ∙ sym c.requires.three

pub returns : goal.returns
returns c = lines_end c.loop-at.invariant c.loop-at-test.false c.end.ensures
