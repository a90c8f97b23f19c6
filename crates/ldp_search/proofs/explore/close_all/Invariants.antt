use Rattle.std.proofs.Common.{◌≡◌, ◌+◌, ◌-◌, ◌≤◌}
use Rattle.ldp_search.specs.Explored.{IsWaiting}
use Rattle.ldp_search.proofs.explore.close_all.Given as goal

abbrev pub invariant-loop-b : goal.invariant-loop-b
invariant-loop-b g l = record {
  waiting : IsWaiting (g.B.Bounds.problem l.bounds) l.state;
  within : l.state.evaluated ≤ l.budget;
  same : g.B.Bounds.problem l.bounds ≡ g.B.Bounds.problem l.fn.bounds;
  asked : g.B.Bounds.times l.bounds + l.fn.state.evaluated
      ≤ g.B.Bounds.times l.fn.bounds + l.state.evaluated;
}

abbrev pub decreases-loop-b : goal.decreases-loop-b
decreases-loop-b g l = l.budget - l.state.evaluated
