-- How far a walk along the entries of a forest has come. Proofs alone need it.
use Rattle.std.specs.Prelude.{◌≤◌, ℕ, List, length}
use Rattle.ldp_design.specs.declared.family.Family.{Family}
use Rattle.ldp_design.specs.Forests.{Place}
use Rattle.ldp_design.specs.Laws.{AllLieIn}

-- what a walk keeps after so many entries without a fault
pub record IsPlace (families : List Family) (entries : ℕ) (at : Place) : Type 0 where
  pub trees : at.trees ≤ length families
  pub boxes : AllLieIn families at.boxes
  pub short : length at.boxes ≤ entries
