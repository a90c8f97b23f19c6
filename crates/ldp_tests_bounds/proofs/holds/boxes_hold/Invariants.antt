use Rattle.ldp_design.specs.Boxes.{LiesIn}
use Rattle.ldp_tests_bounds.specs.Over.{IsOver}
use Rattle.ldp_tests_bounds.proofs.holds.boxes_hold.Given as goal

abbrev pub invariant-loop-number : goal.invariant-loop-number
invariant-loop-number g l = record {
  over : IsOver l.grids.families l.count (g.B.Bounds.problem l.bounds);
  lies : LiesIn l.grids.families l.b;
}
