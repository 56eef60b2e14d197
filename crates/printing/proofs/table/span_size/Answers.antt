-- Two fields, or two commas.
use Rattle.printing.proofs.Laws.Sizes.{span-length}
use Rattle.printing.specs.Bytes.{span}
use Rattle.printing.specs.Writing.{envelope_given}
use Rattle.printing.proofs.table.span_size.Goals as goal

pub returns-in-Some-clause-size : goal.returns-in-Some-clause-size
unfolding envelope_given
returns-in-Some-clause-size c = rw (c.in-Some.is, span-length, ← c.field_size.ensures.size, ← c.field_size-in-Some.ensures.size)

pub returns-in-None-clause-size : goal.returns-in-None-clause-size
unfolding envelope_given span
returns-in-None-clause-size c = rw c.in-None.is
