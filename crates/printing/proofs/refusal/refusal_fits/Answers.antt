-- `refusal_fits` counts what stands beside the file's name.
use Rattle.printing.proofs.Laws.Sizes.{fits-behind, too_long, refusal-length}
use Rattle.printing.proofs.refusal.refusal_fits.Goals as goal

pub returns-then-room-file : goal.returns-then-room-file
returns-then-room-file c = rw refusal-length (too_long _ _ _ c.if-room-file.true)

pub returns : goal.returns
returns c = rw (refusal-length, ← c.digit_count.ensures.count, ← c.digit_count-2.ensures.count) (fits-behind _ _ _ c.if-room-file.false)
