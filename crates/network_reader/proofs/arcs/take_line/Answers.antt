use Rattle.network_reader.proofs.arcs.take_line.Goals as goal

pub returns : goal.returns
returns c = rw (← c.network_line_of.ensures) c.take_form.ensures
