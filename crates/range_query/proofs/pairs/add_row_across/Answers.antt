-- The metres to each offset.
use Rattle.std.proofs.Common.{rules}
use Rattle.range_query.specs.Metres.{metres_between}
use Rattle.range_query.proofs.Laws.Pairs.{metres-by-ends}
use Rattle.range_query.proofs.pairs.add_row_across.Goals as goal

pub returns : goal.returns
returns c = c.add_row.ensures (metres_between c.args.edges c.args.x) (λ y r h made. search (rules, metres-by-ends))
