use Rattle.std.proofs.Common.{[], ◌∷◌, append_assoc, arith, ap, length}
use Rattle.std.proofs.lemmas.List.{length-append}
use Rattle.ldp_stretch.proofs.Columns.{hull_more, longer_more}
use Rattle.ldp_stretch.proofs.hull.push_hull.Goals as goal

pub loop-place-preserved : goal.loop-place-preserved
loop-place-preserved c =
    let so_far = c.loop-place.invariant in
    record {
      longer =
          longer_more c.args.ranges.now.items c.loop-place.ranges.items c.push.new.self.items
          c.in-Some.range so_far.longer c.in_ok-push.ensures.items
          (λ xs ys zs. append_assoc xs ys zs);
      count = omega (
        arith,
        ap length c.in_ok-push.ensures.items,
        length-append c.loop-place.ranges.items (c.in-Some.range ∷ []),
        so_far.count,
      );
      holds =
          hull_more c.args.prepared.now.results c.args.node c.loop-place.ranges.items
          c.push.new.self.items c.len-begin.result c.loop-place.place c.in-Some.range
          c.in_ok-push.ensures.items so_far.count so_far.holds c.in-Some.ensures;
    }
