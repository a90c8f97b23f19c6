use Rattle.ldp_design.specs.Boxes.{LiesIn}
use Rattle.ldp_tests_bounds.proofs.halves.halved.Given as goal

abbrev pub invariant-loop : goal.invariant-loop
invariant-loop l = LiesIn l.grids.families l.narrow
