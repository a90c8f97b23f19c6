-- A problem of these families over so many cells.
use Rattle.std.specs.Prelude.{◌≡◌, ℕ, List}
use Rattle.ldp_design.specs.declared.family.Family.{Family}
use Rattle.ldp_problem.specs.Problem.{Problem}

-- the problem has these families, and so many cells
pub record IsOver (known : List Family) (count : ℕ) (p : Problem) : Type 0 where
  pub families : p.families ≡ known
  pub cells : p.cells ≡ count
