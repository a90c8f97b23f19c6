use Rattle.ldp_tests_bounds.specs.Over.{IsOver}
use Rattle.ldp_tests_bounds.proofs.questions.answer_all.Given as goal

abbrev pub invariant-loop-question : goal.invariant-loop-question
invariant-loop-question g l = IsOver l.grids.families l.count (g.B.Bounds.problem l.bounds)
