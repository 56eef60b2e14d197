-- Gathered twice, for edges and for offsets; the front of both lists is then laid out.
use mathlib.Core.Path.{sym}
use Prim.Native.Nat.{◌≤◌}
use native.Mathlib.Omega.{arith}
use lib.ListN.{length}
use lib.Seq.{length-take-le}
use Rattle.prepare.proofs.Laws.Kept.{kept-front}
use Rattle.prepare.proofs.Laws.Laying.{set-laid}
use Rattle.prepare.proofs.sets.lay_set.Goals as goal

pub slice_bounds-lay_out-end-2 : goal.slice_bounds-lay_out-end-2
slice_bounds-lay_out-end-2 c = sym (length-take-le c.gather-n.result c.gather.new.out (omega (arith, c.requires.edges_room, c.gather.auto.out, c.gather-n.ensures.gathered.many)))

pub slice_bounds-lay_out-end-4 : goal.slice_bounds-lay_out-end-4
slice_bounds-lay_out-end-4 c = sym (length-take-le c.gather-n.result c.gather-n.new.out (omega (arith, c.requires.offsets_room, c.gather-n.auto.out, c.gather-n.ensures.gathered.many)))

pub returns : goal.returns
returns c = let edges_room : c.gather-n.result ≤ length c.gather.new.out = omega (arith, c.requires.edges_room, c.gather.auto.out, c.gather-n.ensures.gathered.many) in
    let offsets_room : c.gather-n.result ≤ length c.gather-n.new.out = omega (arith, c.requires.offsets_room, c.gather-n.auto.out, c.gather-n.ensures.gathered.many) in record {
      set_laid = set-laid _ _ _ _ c.requires.same_length _ _ _ (rw (c.gather.ensures.gathered.many, ← c.gather-n.ensures.gathered.many) at c.gather.ensures.gathered.front) c.gather-n.ensures.gathered.front edges_room offsets_room
          (omega (arith, c.requires.few, c.gather-n.ensures.gathered.many))
          _ _ _ c.lay_out.ensures c.gather-n.ensures.gathered.many;
      kept_from = (
        kept-front c.lay_out.new.edges edges_room c.lay_out.auto.edges (rw (c.gather.ensures.gathered.many, ← c.gather-n.ensures.gathered.many) at c.gather.ensures.kept_from),
        kept-front c.lay_out.new.offsets offsets_room c.lay_out.auto.offsets c.gather-n.ensures.kept_from,
      );
    }
