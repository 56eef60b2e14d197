-- What was prepared is what the loops read; on refusal nothing is written.
use Rattle.std.proofs.Common.{arith, rules, length, ◌≡◌, ◌∙◌, sym, Err}
use Rattle.std.proofs.lemmas.Grind.{merely}
use Rattle.prepare.proofs.Laws.SetPairs.{Stored}
use Rattle.counting.proofs.Laws.AllSets.{begun, storable, thresholds-ordered, all_runs, sets-ready, room_for, refused-answered, all-answered}
use Rattle.counting.proofs.sets.count_sets.Goals as goal

pub returns-in_err-prepare : goal.returns-in_err-prepare
returns-in_err-prepare c =
    let told : c.from_residual.result ≡ Err c.in_err-prepare.field-0.0 = search rules in
    rw (told ∙ sym c.in_err-prepare.was) (refused-answered c.prepare.ensures.ready c.in_err-prepare.was)

pub store_runs-requires : goal.store_runs-requires
store_runs-requires c = storable (begun c.prepare.ensures.ready c.in_ok-prepare.was c.greatest_set.ensures) c.value_at-runs.ensures _ _ (search rules) (search rules) (search rules) (search rules)

pub invariant_of-prepared : goal.invariant_of-prepared
invariant_of-prepared c =
    let b = begun c.prepare.ensures.ready c.in_ok-prepare.was c.greatest_set.ensures in
    let up = b.accepted.thresholds-are in
    let stored : Stored _ _ _ _ = record {
      edges-length = search rules;
      offsets-length = search rules;
      bounds-length = search rules;
      table-length = search rules;
    } in
    record {
      ready = merely (all_runs b c.value_at-runs.ensures stored (c.spread.ensures.1 c.requires up.some up.few (thresholds-ordered up)) c.store_runs.ensures);
    }

pub count_rows-requires : goal.count_rows-requires
count_rows-requires c =
    let b = begun c.prepare.ensures.ready c.in_ok-prepare.was c.greatest_set.ensures in
    let long : length c.prepare.new.working.set_runs ≡ 33 = search rules in
    (sets-ready b c.value_at-runs.ensures (omega (arith, long, b.few_sets)), room_for b)

pub returns : goal.returns
returns c = rw (← c.in_ok-prepare.was) (all-answered (begun c.prepare.ensures.ready c.in_ok-prepare.was c.greatest_set.ensures) c.prepare.ensures.ready c.in_ok-prepare.was c.count_rows.ensures)
