-- A problem as a search or a checker sees it, whatever the projections and the cells are: its
-- designs, boxes of designs and numbered cells.
use Rattle.std.specs.Prelude.{◌≡◌, ◌≤◌, ◌<◌, ℕ, List, Option, Some, unwrap_or}
use Rattle.ldp_design.specs.declared.family.Family.{Family}
use Rattle.ldp_design.specs.declared.design.Design.{Design}
use Rattle.ldp_design.specs.declared.design_box.DesignBox.{DesignBox}
use Rattle.ldp_design.specs.Boxes.{LiesIn, IsIn, IsSingle, first_of}

-- The families of designs and the number of cells; the tolerance, if cells beyond it are counted;
-- what the absolute distortion of each design of a box is at least at a cell; and the absolute
-- distortion of a design at a cell, if it is defined there. Distortions are in units of 10^-15.
pub record Problem : Type 0 where
  pub families : List Family
  pub cells : ℕ
  pub tolerance : Option ℕ
  pub lower : DesignBox → ℕ → ℕ
  pub delta : Design → ℕ → Option ℕ

-- The laws of lower: it is natural, it is at most the absolute distortion of each design of the
-- box where that is defined, and at a box of one design it is that of the design, and 0 where
-- that is undefined. There is a cell.
pub record IsSound (p : Problem) : Type 0 where
  pub some_cell : 0 < p.cells
  pub below : (b : DesignBox) (d : Design) (cell size : ℕ)
      → LiesIn p.families b → IsIn d b → cell < p.cells
      → p.delta d cell ≡ Some size → p.lower b cell ≤ size
  pub single : (b : DesignBox) (cell : ℕ)
      → LiesIn p.families b → IsSingle b → cell < p.cells
      → p.lower b cell ≡ unwrap_or (p.delta (first_of b) cell) 0
