use Rattle.std.proofs.Common.{◌≡◌, ◌+◌, ◌≤◌, []}
use Rattle.ldp_design.specs.Forests.{node_count}
use Rattle.ldp_optimum.specs.Forest.{first_trees}
use Rattle.ldp_search.proofs.write.write_forest.Given as goal

abbrev pub invariant-loop-index : goal.invariant-loop-index
invariant-loop-index g l = record {
  trees : l.forest ≡ first_trees (g.B.Bounds.problem l.fn.bounds) l.index;
  empty : l.stack ≡ [];
  same : g.B.Bounds.problem l.bounds ≡ g.B.Bounds.problem l.fn.bounds;
  asked : g.B.Bounds.times l.bounds
      ≤ g.B.Bounds.times l.fn.bounds + node_count
      (first_trees (g.B.Bounds.problem l.fn.bounds) l.index);
}
