-- The keys sorted and taken apart are the events sorted.
use mathlib.Core.List.{List, map}
use mathlib.Core.Path.{subst, ◌∙◌}
use Prim.Native.Nat.{ℕ, ◌<◌}
use lib.ListN.{get_or}
use Rattle.std.proofs.Common.{rules}
use Rattle.std.specs.List.Sorted.{IsPermutation}
use Rattle.model.specs.Events.{events}
use Rattle.layout.specs.Keys.{key_base, key_of}
use Rattle.layout.proofs.Laws.Keys.{sorted-parts}
use Rattle.layout.proofs.laying_out.sort_events.Goals as goal

pub returns : goal.returns
returns c = let moved : IsPermutation (map key_of (events c.args.edges.now c.args.offsets.now)) c.sort_unstable.new.self =
    subst (λ (l : List ℕ). IsPermutation l c.sort_unstable.new.self) c.join.ensures c.sort_unstable.ensures.permutation in
    let fits : (i : ℕ) → get_or c.args.offsets.now i 0 < key_base = λ i. search rules in
    let up = c.sort_unstable.ensures.sorted in
    record {
      sorted_edges = c.part.ensures.0 ∙ sorted-parts (λ e. e.edge) _ _ _ fits moved up;
      sorted_offsets = c.part.ensures.1 ∙ sorted-parts (λ e. e.offset) _ _ _ fits moved up;
    }
