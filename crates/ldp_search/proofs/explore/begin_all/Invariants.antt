use Rattle.std.proofs.Common.{◌≡◌, ◌+◌, ◌≤◌, []}
use Rattle.ldp_search.specs.Explored.{IsExplored}
use Rattle.ldp_search.proofs.explore.begin_all.Given as goal

abbrev pub invariant-loop-index : goal.invariant-loop-index
invariant-loop-index g l = record {
  explored : IsExplored (g.B.Bounds.problem l.bounds) l.index [] l.state;
  within : l.state.evaluated ≤ l.budget;
  same : g.B.Bounds.problem l.bounds ≡ g.B.Bounds.problem l.fn.bounds;
  asked : g.B.Bounds.times l.bounds ≤ g.B.Bounds.times l.fn.bounds + l.state.evaluated;
}
