-- `put_number` lends the part that the digits fill.
use Rattle.printing.proofs.Laws.Writing.{put-part}
use Rattle.printing.proofs.writing.put_number.Goals as goal

pub returns : goal.returns
returns c = put-part _ _ _ _ _ c.digit_count.ensures.count c.write_digits.ensures
