-- What is found, or the number of all steps, is the bucket, which is the right one in the ladder of any thresholds.
use mathlib.Core.Path.{◌≡◌, ◌∙◌, ap}
use native.Mathlib.Omega.{arith}
use lib.Dec.{leb}
use Rattle.range_query.specs.Ladder.{bucket_in}
use Rattle.range_query.proofs.Laws.Lookup.{bucket-right}
use Rattle.range_query.proofs.lookup.first_admitting.Goals as goal

pub returns : goal.returns
unfolding bucket_in
returns c =
    let is : c.min.result ≡ bucket_in c.args.ladder.now c.args.metres = cc in
    (λ e. is, omega arith, λ ts w k h. ap (λ r. leb r k) is ∙ bucket-right w c.args.metres k h)
