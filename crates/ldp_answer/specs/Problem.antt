-- The problem of families of designs over cells. Own choice of this project.
use Rattle.std.specs.Prelude.{ℕ, List, Option}
use Rattle.ldp_cells.specs.declared.cell.Cell.{Cell}
use Rattle.ldp_design.specs.declared.family.Family.{Family}
use Rattle.ldp_problem.specs.Problem.{Problem}
use Rattle.ldp_bound.specs.Plain.{plain_problem}

-- boxes are bounded by ranges of values; where there is a tolerance, cells beyond it are counted
abbrev pub problem_over : List Family → List Cell → Option ℕ → Problem
problem_over families cells tolerance = plain_problem families cells tolerance
