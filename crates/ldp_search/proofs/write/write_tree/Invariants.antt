use Rattle.std.proofs.Common.{◌≡◌, ◌+◌, ◌≤◌, ◌++◌}
use Rattle.ldp_design.specs.Laws.{AllLieIn}
use Rattle.ldp_search.specs.Explored.{nodes_of_all}
use Rattle.ldp_search.specs.Written.{trees_of}
use Rattle.ldp_search.proofs.write.write_tree.Given as goal

abbrev pub invariant-loop-b : goal.invariant-loop-b
invariant-loop-b g l = record {
  trees : l.forest ++ trees_of (g.B.Bounds.problem l.fn.bounds) l.stack
      ≡ l.fn.forest ++ trees_of (g.B.Bounds.problem l.fn.bounds) l.fn.stack;
  lies : AllLieIn (g.B.Bounds.problem l.fn.bounds).families l.stack;
  same : g.B.Bounds.problem l.bounds ≡ g.B.Bounds.problem l.fn.bounds;
  asked : g.B.Bounds.times l.bounds + nodes_of_all (g.B.Bounds.problem l.fn.bounds) l.stack
      ≤ g.B.Bounds.times l.fn.bounds + nodes_of_all (g.B.Bounds.problem l.fn.bounds) l.fn.stack;
}

abbrev pub decreases-loop-b : goal.decreases-loop-b
decreases-loop-b g l = nodes_of_all (g.B.Bounds.problem l.fn.bounds) l.stack
