use Rattle.std.proofs.Common.{◌≡◌}
use Rattle.ldp_design.specs.Boxes.{LiesIn}
use Rattle.ldp_timing.proofs.boxes.sum_of_bounds.Given as goal

abbrev pub invariant-loop-round : goal.invariant-loop-round
invariant-loop-round g l = record {
  families : (g.B.Bounds.problem l.bounds).families ≡ l.grids.families;
  lies : LiesIn l.grids.families l.b;
}
