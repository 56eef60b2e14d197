-- What is within the threshold at the place, and all from the next one on.
use Rattle.std.proofs.Common.{add-one}
use Rattle.counting.proofs.Laws.Kernels.{added-parted}
use Rattle.counting.proofs.kernels.add_parted.Goals as goal

pub returns : goal.returns
returns c = λ parts small laid. added-parted small parts laid (c.count_within-within.ensures laid.first_laid.few laid.second_laid.few) (c.pairs_of.ensures laid.first_laid.few laid.second_laid.few) c.change_from.ensures (rw (← (add-one c.args.place)) c.change_from-2.ensures)
