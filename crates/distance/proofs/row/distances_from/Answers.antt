-- `distances_from`: the verdict is the check's; on acceptance the row stands in front of the answers, and the search says how far
-- its distances go.
use Rattle.model.specs.Refusal.{accepted}
use Rattle.std.proofs.Common.{◌≡◌, ◌∙◌, sym, Err}
use Rattle.model.specs.Network.{network_of}
use Rattle.distance.specs.Answers.{row_check}
use Rattle.distance.proofs.Entries.{searched-small, searched-whole}
use Rattle.distance.proofs.Laws.Rows.{row-length}
use Rattle.distance.proofs.Rooms.{askable}
use Rattle.distance.proofs.Verdicts.{row-accepted}
use Rattle.model.proofs.Laws.Answer.{written-refused, written-accepted}
use Rattle.model.proofs.Laws.Refusal.{not-accepted}
use borrow.Author.Rules.{rules}
use Rattle.distance.proofs.row.distances_from.Goals.{In_ok-check_row}
use Rattle.distance.proofs.row.distances_from.Goals as goal

-- past the check
passed : (c : In_ok-check_row) → row_check (network_of c.args.network) c.args.source c.args.answers.now ≡ accepted
passed c = sym c.check_row.ensures ∙ c.in_ok-check_row.was

pub returns-in_err-check_row : goal.returns-in_err-check_row
returns-in_err-check_row c = let refused = sym c.check_row.ensures ∙ c.in_err-check_row.was in
    let told : c.from_residual.result ≡ Err c.in_err-check_row.field-0.0 = search rules in
    record {
      verdict = told ∙ sym refused;
      after = written-refused _ _ refused;
      small = λ e. not-accepted (sym told ∙ e);
      whole = λ e. not-accepted (sym told ∙ e);
    }

pub write_row-requires : goal.write_row-requires
write_row-requires c = let a = row-accepted _ _ _ (passed (goal.at.write_row-requires c).In_ok-check_row) in
    record { askable = askable a.1.is-network a.1.first-node (search rules); nodes_in_bounds = a.0 }

pub returns : goal.returns
returns c = let filled = c.write_row.ensures in
    record {
      verdict = sym (passed (goal.at.returns c).In_ok-check_row);
      after = written-accepted _ _ _ (passed (goal.at.returns c).In_ok-check_row) (row-length _ _ _) filled.answers_after;
      small = λ e. searched-small filled.searched;
      whole = λ e. searched-whole filled.searched;
    }
