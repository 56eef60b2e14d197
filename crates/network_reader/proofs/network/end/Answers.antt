use Rattle.std.proofs.Common.{◌≡◌, sym, ap, ◌∙◌, Err, rules}
use Rattle.std.specs.Result.{result_ok}
use Rattle.reading.proofs.Mapped.{none_there}
use Rattle.network_reader.proofs.NetworkRows.{end-misplaced, end-missing, end_read}
use Rattle.network_reader.proofs.network.end.Goals as goal

pub returns-in_err-read : goal.returns-in_err-read
returns-in_err-read c =
    let told : c.from_residual.result ≡ Err c.in_err-read.field-0.0 = search rules in
    let none = none_there _ _ (sym c.ok_or.ensures.value ∙ c.in_err-read.was) in
    rw (told, none.1) (end-misplaced _ none.0)

pub returns-then-read : goal.returns-then-read
returns-then-read c = end-missing _ c.requires (c.ok_or.ensures.ok_part ∙ ap result_ok c.in_ok-read.was) c.if-read.true

pub returns : goal.returns
returns c = end_read _ c.requires (c.ok_or.ensures.ok_part ∙ ap result_ok c.in_ok-read.was) c.if-read.false
