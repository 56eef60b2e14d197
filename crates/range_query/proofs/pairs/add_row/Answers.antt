-- What is found in each loop are the buckets, as far as there are thresholds.
use Rattle.std.proofs.Common.{◌≡◌, ◌∙◌, sym, rules}
use Rattle.range_query.specs.Ladder.{shift_of, place_in, by_steps_of}
use Rattle.range_query.proofs.Laws.Lookup.{found-place, found-steps, found-shift}
use Rattle.range_query.proofs.Laws.Pairs.{row-found}
use Rattle.range_query.proofs.pairs.add_row.Goals as goal

pub add_row_by-requires-in-Wide-clause-place : goal.add_row_by-requires-in-Wide-clause-place
add_row_by-requires-in-Wide-clause-place g c =
    let told : c.in-Wide.shift ≡ shift_of c.args.ladder.now = found-shift c.args.ladder.now (sym c.in-Wide.is ∙ c.requires.read.1) in
    search rules

pub returns-in-EachMetre : goal.returns-in-EachMetre
returns-in-EachMetre g c = λ metres far.
    row-found c.args.ladder.now _ metres (place_in c.args.ladder.now) c.args.ys.now (found-place c.args.ladder.now (sym c.in-EachMetre.is ∙ c.requires.read.1))
    (c.add_row_by.ensures metres (place_in c.args.ladder.now) far (λ d r h made. search rules))

pub returns-in-Wide : goal.returns-in-Wide
returns-in-Wide g c = λ metres far.
    row-found c.args.ladder.now _ metres (by_steps_of c.args.ladder.now) c.args.ys.now (found-steps c.args.ladder.now (sym c.in-Wide.is ∙ c.requires.read.1))
    (c.add_row_by-in-Wide.ensures metres (by_steps_of c.args.ladder.now) far (λ d r h made. search rules))
