use Rattle.std.proofs.Common.{◌≡◌, ◌≤◌}
use Rattle.ldp_problem.specs.Costs.{at_cells, beyond}
use Rattle.ldp_check.proofs.leaf.count_beyond.Given as goal

abbrev pub invariant-loop-cell : goal.invariant-loop-cell
invariant-loop-cell g l = record {
  counted : l.over ≡ beyond (g.B.Bounds.problem l.fn.bounds).tolerance
      (at_cells ((g.B.Bounds.problem l.fn.bounds).lower l.b) l.cell);
  few : l.over ≤ l.cell;
  cells : l.cell-end ≡ (g.B.Bounds.problem l.fn.bounds).cells;
  same : g.B.Bounds.problem l.bounds ≡ g.B.Bounds.problem l.fn.bounds;
}
