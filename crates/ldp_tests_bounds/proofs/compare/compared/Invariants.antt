use Rattle.ldp_design.specs.Boxes.{LiesIn}
use Rattle.ldp_tests_bounds.specs.Over.{IsOver}
use Rattle.ldp_tests_bounds.proofs.compare.compared.Given as goal

abbrev pub invariant-loop-number : goal.invariant-loop-number
invariant-loop-number g l = record {
  left : IsOver l.grids.families l.count (g.A.Bounds.problem l.left);
  right : IsOver l.grids.families l.count (g.B.Bounds.problem l.right);
  lies : LiesIn l.grids.families l.b;
}
