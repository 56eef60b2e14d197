-- There is room enough, so the report is never refused.
use Rattle.std.proofs.Common.{ap, is_ok}
use Rattle.kcount.proofs.Laws.Held.{bytes-held}
use Rattle.kcount.proofs.fill.Goals as goal

pub unwrap-requires : goal.unwrap-requires
unwrap-requires c = ap is_ok (c.report.ensures.never_refused c.requires)

pub returns : goal.returns
returns c = bytes-held c.report.ensures c.requires c.report.auto.out c.unwrap.ensures
