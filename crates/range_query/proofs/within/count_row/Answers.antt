-- The offsets so far that are within the limit are counted.
use Rattle.std.proofs.Common.{Bool, ◌≡◌, ℕ, ap, ◌∙◌, leb, get_or, arith}
use Rattle.std.proofs.lemmas.List.{take_all}
use Rattle.model.specs.Counting.{one_if}
use Rattle.model.proofs.Laws.Counting.{one-if-one}
use Rattle.range_query.specs.Metres.{metres_between}
use Rattle.range_query.proofs.Laws.Pairs.{count-next}
use Rattle.range_query.proofs.Laws.Within.{number-of}
use Rattle.range_query.proofs.within.count_row.Goals as goal

pub loop-y-preserved : goal.loop-y-preserved
loop-y-preserved c =
    let test : ℕ → Bool = λ y. leb (metres_between c.args.edges c.args.x y) c.args.limit in
    let one : c.from-count.result ≡ one_if (test (get_or c.args.ys.now c.loop-y.y-index 0)) = c.from-count.ensures ∙ number-of _ ∙ ap (λ (d : ℕ). one_if (leb d c.args.limit)) c.meet-metres.ensures in
    (omega (arith, one, count-next test c.args.ys.now c.loop-y.y-index c.loop-y-test.true), omega (arith, one, one-if-one (test (get_or c.args.ys.now c.loop-y.y-index 0))))

pub returns : goal.returns
returns c = (rw (take_all c.loop-y.y-index c.args.ys.now c.loop-y-test.false) at c.loop-y.invariant.0, omega arith)
