use Rattle.std.proofs.Common.{◌≡◌, length}
use Rattle.ldp_stretch.specs.Hulls.{width_of}
use Rattle.ldp_stretch.proofs.Columns.{AreEach}
use Rattle.ldp_stretch.proofs.stretches.Stretches.new.Given as goal

abbrev pub invariant-loop-node : goal.invariant-loop-node
invariant-loop-node l = record {
  count : length l.begins.items ≡ l.node-index;
  each :
      AreEach l.prepared.results (width_of l.prepared) l.node-items l.begins.items l.ranges.items;
}
