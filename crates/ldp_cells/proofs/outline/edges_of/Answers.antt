use Rattle.ldp_cells.proofs.Outlines.{ring_pushed}
use Rattle.ldp_cells.proofs.outline.edges_of.Goals as goal

pub loop-i-preserved : goal.loop-i-preserved
loop-i-preserved c = record {
  value = ring_pushed c.args.zone.now c.loop-i.i c.ring.result.now c.loop-i.edges.items
      c.push_ring.new.edges.items c.ring.ensures.value c.in_ok-push_ring.ensures.value
      c.loop-i.invariant.value;
  range = c.in_ok-push_ring.ensures.range;
}
