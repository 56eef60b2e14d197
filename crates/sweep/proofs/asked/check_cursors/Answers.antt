-- Too little room decides alone; otherwise the checks of validate, one after the other.
use Rattle.std.proofs.Common.{rules, ◌≡◌, sym, ◌∙◌, Err}
use Rattle.model.specs.Network.{network_of}
use Rattle.sweep.proofs.Laws.AnsweringCheck.{no-rooms, edges-refused, edges-accepted}
use Rattle.sweep.proofs.asked.check_cursors.Goals as goal

pub returns-then-not-has_rooms : goal.returns-then-not-has_rooms
returns-then-not-has_rooms c = no-rooms _ _ _ _ _ _ _ (sym c.has_rooms.ensures ∙ c.if-not-has_rooms.true)

pub returns-in_err-check_locations : goal.returns-in_err-check_locations
returns-in_err-check_locations c = let roomy = sym c.has_rooms.ensures ∙ c.if-not-has_rooms.false in
    let told : c.from_residual.result ≡ Err c.in_err-check_locations.field-0.0 = search rules in
    told ∙ sym c.in_err-check_locations.was ∙ edges-refused (network_of c.args.network) c.args.edges.now c.args.offsets.now c.args.edge1 c.args.edge2 c.args.positions.now c.args.moves.now roomy c.check_locations.ensures c.in_err-check_locations.was

pub returns : goal.returns
returns c = let roomy = sym c.has_rooms.ensures ∙ c.if-not-has_rooms.false in
    edges-accepted (network_of c.args.network) c.args.edges.now c.args.offsets.now c.args.edge1 c.args.edge2 c.args.positions.now c.args.moves.now roomy c.check_locations.ensures c.in_ok-check_locations.was c.check_laid_out.ensures
