-- `fill`: room for any network.
use borrow.Author.Rules.{rules}
use Rattle.distance.proofs.table.fill.Goals as goal

pub fill_with-requires : goal.fill_with-requires
fill_with-requires c = record { fillable = c.requires; rooms = (record { last_room = search rules; next_room = search rules; front_room = search rules }, search rules) }
