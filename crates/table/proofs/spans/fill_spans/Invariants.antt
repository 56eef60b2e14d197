-- Both ends of the envelopes of the columns so far are stored.
use Rattle.table.proofs.Laws.Spans.{Stored}
use Rattle.table.proofs.spans.fill_spans.Given as goal

abbrev pub invariant-loop-k : goal.invariant-loop-k
invariant-loop-k l = Stored (λ l u. l) l.rows l.width l.greatest l.lower l.k × Stored (λ l u. u) l.rows l.width l.greatest l.upper l.k
