use Rattle.std.proofs.Common.{[], ◌∷◌, get_or, length, arith, ap}
use Rattle.std.proofs.lemmas.List.{length-append}
use Rattle.std.proofs.lemmas.Option.{slice_get-get_or}
use Rattle.ldp_sweep.specs.declared.stretch.Stretch.{Stretch}
use Rattle.ldp_stretch.specs.Hulls.{width_of}
use Rattle.ldp_stretch.proofs.Columns.{hulls_more, node_inside}
use Rattle.ldp_stretch.proofs.stretches.Stretches.new.Goals as goal

pub push_hull-requires : goal.push_hull-requires
push_hull-requires c =
    node_inside c.args.count (length c.args.prepared.now.results) c.in_ok-nodes.nodes.items
    c.deref-node-items.result.now c.loop-node.node-index (record { from = 0; to = 0; skip = 0 })
    c.in_ok-nodes.ensures c.deref-node-items.ensures.value (omega arith) c.requires.count

pub loop-node-preserved : goal.loop-node-preserved
loop-node-preserved c =
    let so_far = c.loop-node.invariant in
    let none : Stretch = record { from = 0; to = 0; skip = 0 } in
    let nodes = c.deref-node-items.result.now in
    let found = c.in_ok-push_hull.field-0 in
    record {
      count = omega (
        arith,
        ap length c.in_ok-push.ensures.items,
        length-append c.loop-node.begins.items (found ∷ []),
        so_far.count,
      );
      each =
          hulls_more c.args.prepared.now.results (width_of c.args.prepared.now) nodes
          c.loop-node.begins.items c.push.new.self.items c.loop-node.ranges.items
          c.push_hull.new.ranges.items c.loop-node.node-index
          (get_or nodes c.loop-node.node-index none) found so_far.count
          c.in_ok-push.ensures.items
          (slice_get-get_or nodes c.loop-node.node-index none (omega arith))
          c.in_ok-push_hull.ensures.longer c.in_ok-push_hull.ensures.hull so_far.each;
    }
