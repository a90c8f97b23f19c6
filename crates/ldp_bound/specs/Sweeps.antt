-- The distortion of a box and of a design, gone over by stretches of cells. Only private functions
-- speak of it.
use Rattle.std.specs.Prelude.{◌≡◌, ℕ, ℤ, List, length, take, Some}
use Rattle.ldp_num.specs.Number.{limit}
use Rattle.ldp_num.specs.Steps.{most_steps, most_inputs}
use Rattle.ldp_num.specs.declared.fix.Fix.{Fix}
use Rattle.ldp_distortion.specs.Prepared.{PreparedCells}
use Rattle.ldp_distortion.specs.Inputs.{numbers}
use Rattle.ldp_sweep.specs.declared.stretch.Stretch.{Stretch}
use Rattle.ldp_sweep.specs.Cut.{Cut}
use Rattle.ldp_bound.specs.Kept.{IsReady, low_from, size_from}

-- the prepared cells, their number, the nodes, and the results of the design list
pub record Swept (A : Type 0) : Type 0 where
  pub cells : PreparedCells
  pub count : ℕ
  pub nodes : List Stretch
  pub design : List A

-- the least absolute value in the range of the box at each cell
abbrev pub box_cut : Swept (ℤ × ℤ) → Cut
box_cut s = record {
  cells = s.count;
  value = λ cell. Some (low_from s.cells s.design cell);
  limit = limit;
  nodes = s.nodes;
}

-- the absolute distortion of the design at each cell
abbrev pub design_cut : Swept Fix → Cut
design_cut s = record {
  cells = s.count;
  value = size_from s.cells (numbers s.design);
  limit = limit;
  nodes = s.nodes;
}

-- the inputs that the design list gives
abbrev pub front : {A : Type 0} → PreparedCells → List A → List A
front p inputs = take (length p.lists.design.outs) inputs

-- the cells are so many, and there is room for every list on the bench and among the inputs
pub record IsSweep (p : PreparedCells) (count room places : ℕ) : Type 0 where
  pub ready : IsReady count p
  pub whole_room : room ≡ most_steps
  pub whole_places : places ≡ most_inputs
