use Rattle.event_reader.proofs.EventRows.{text-refused, text-taken}
use Rattle.reading.proofs.Headed.{rows-found, none_found}
use Rattle.event_reader.proofs.events.take_text.Goals as goal

pub slice_bounds-take_rows-count : goal.slice_bounds-take_rows-count
slice_bounds-take_rows-count c = (rows-found c.read_header.ensures c.in-Some.is).within

pub slice_bounds-take_rows-start : goal.slice_bounds-take_rows-start
slice_bounds-take_rows-start c = (rows-found c.read_header.ensures c.in-Some.is).within

pub returns-in-None : goal.returns-in-None
returns-in-None c = text-refused _ _ _ _ _ (none_found _ _ c.read_header.ensures c.in-None.is)

pub returns-in-Some : goal.returns-in-Some
returns-in-Some c = text-taken (rows-found c.read_header.ensures c.in-Some.is) c.take_rows.ensures
