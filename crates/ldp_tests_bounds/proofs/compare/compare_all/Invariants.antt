use Rattle.ldp_tests_bounds.specs.Over.{IsOver}
use Rattle.ldp_tests_bounds.proofs.compare.compare_all.Given as goal

abbrev pub invariant-loop-question : goal.invariant-loop-question
invariant-loop-question g l = record {
  left : IsOver l.grids.families l.count (g.A.Bounds.problem l.left);
  right : IsOver l.grids.families l.count (g.B.Bounds.problem l.right);
}
