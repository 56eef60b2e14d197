-- The cells so far are right, and every step before the one in hand is below the next cell.
use Rattle.std.proofs.Common.{◌≡◌, ℕ, ◌+◌, ◌^◌, ap, arith, rules}
use Rattle.range_query.specs.Ladder.{shift_of}
use Rattle.range_query.proofs.Laws.Filling.{filling-more, filling-done}
use Rattle.range_query.proofs.spreading.fill_cells.Goals as goal

pub loop-k-preserved : goal.loop-k-preserved
loop-k-preserved c =
    let wide : c.width_of-width.result ≡ 2 ^ shift_of c.args.ladder.now = cc in
    filling-more c.requires.0 c.requires.1 c.loop-k.invariant c.loop-k-test.true c.skip-c.ensures (ap (λ (n : ℕ). c.loop-k.start + n) wide) (search rules) c.named_step-step.ensures

pub returns : goal.returns
returns c = filling-done c.requires.0 c.requires.1 c.loop-k.invariant c.loop-k-test.false (λ e. omega arith)
