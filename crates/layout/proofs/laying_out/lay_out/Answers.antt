-- The verdict is the check's; on acceptance the events sorted fill both lists.
use Rattle.model.specs.Refusal.{accepted}
use Rattle.std.proofs.Common.{rules, ◌≡◌, sym, ◌∙◌, Err}
use lib.ListN.{length}
use lib.Seq.{length-take-le}
use Rattle.model.specs.Checks.{layout_check}
use Rattle.model.proofs.Laws.Answer.{written-refused, written_all}
use Rattle.model.proofs.Laws.Checks.{LayoutAccepted, layout-accepted}
use Rattle.layout.proofs.laying_out.lay_out.Goals.{In_ok-check_layout}
use Rattle.layout.proofs.laying_out.lay_out.Goals as goal

-- past the check the lists are as long as each other, and short enough
passed : (c : In_ok-check_layout) → layout_check c.args.edges.now c.args.offsets.now ≡ accepted
passed c = sym c.check_layout.ensures ∙ c.in_ok-check_layout.was

fitting : (c : In_ok-check_layout) → LayoutAccepted c.args.edges.now c.args.offsets.now
fitting c = layout-accepted _ _ (passed c)

pub returns-in_err-check_layout : goal.returns-in_err-check_layout
returns-in_err-check_layout c = let e = sym c.check_layout.ensures ∙ c.in_err-check_layout.was in
    let told : c.from_residual.result ≡ Err c.in_err-check_layout.field-0.0 = search rules in
    record {
      verdict = told ∙ sym e;
      edges_after = written-refused _ _ e;
      offsets_after = written-refused _ _ e;
    }

pub slice_bounds-keys-end : goal.slice_bounds-keys-end
slice_bounds-keys-end c = (fitting (goal.at.slice_bounds-keys-end c).In_ok-check_layout).few

pub slice_bounds-sort_events-end : goal.slice_bounds-sort_events-end
slice_bounds-sort_events-end c = sym (length-take-le (length c.args.edges.now) _ (fitting (goal.at.slice_bounds-sort_events-end c).In_ok-check_layout).few)

pub sort_events-requires : goal.sort_events-requires
sort_events-requires c = let fits = fitting (goal.at.sort_events-requires c).In_ok-check_layout in
    record {
      same_offsets = sym fits.same_length;
      same_keys = length-take-le (length c.args.edges.now) _ fits.few;
    }

pub returns : goal.returns
returns c = let fits = passed (goal.at.returns c).In_ok-check_layout in
    record {
      verdict = sym fits;
      edges_after = written_all _ _ _ fits c.sort_events.ensures.sorted_edges c.sort_events.auto.edges;
      offsets_after = written_all _ _ _ fits c.sort_events.ensures.sorted_offsets c.sort_events.auto.offsets;
    }
