use Rattle.ldp_tests_bounds.specs.Over.{IsOver}
use Rattle.ldp_tests_bounds.proofs.holds.is_below.Given as goal

abbrev pub invariant-loop-cell : goal.invariant-loop-cell
invariant-loop-cell g l = IsOver l.grids.families l.count (g.B.Bounds.problem l.bounds)
