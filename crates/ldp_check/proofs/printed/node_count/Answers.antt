use Rattle.ldp_check.proofs.Nodes.{count_next}
use Rattle.ldp_check.proofs.printed.node_count.Goals as goal

pub loop-i-preserved : goal.loop-i-preserved
loop-i-preserved c = record {
  counted =
      count_next c.args.forest.now c.loop-i.i c.loop-i.nodes c.node_value-nodes.result c.get.result
      c.get.ensures
      c.node_value-nodes.ensures c.loop-i.invariant.counted;
  end = c.loop-i.invariant.end;
}
