-- The cursor made for the code, moved on.
use Rattle.neighbor_sharing.specs.Stands.{route_moved}
use Rattle.neighbor_sharing.proofs.moving.route_to.Goals as goal

pub returns : goal.returns
unfolding route_moved
returns c = rw (← c.code_between-code.ensures, ← c.route-cursor.ensures) c.advance.ensures
