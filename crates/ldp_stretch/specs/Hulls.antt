-- Cells that are cut into stretches, and hulls of the results of the cell list over them. (Own
-- choice of this project.)
use Rattle.std.specs.Prelude.{◌≡◌, ◌≤◌, ◌<◌, ◌+◌, ◌++◌, ℕ, ℤ, List, length, slice_get, Option, Some}
use Rattle.ldp_range.specs.Range.{LiesIn}
use Rattle.ldp_range.specs.Related.{Pairwise}
use Rattle.ldp_distortion.specs.Prepared.{PreparedCells}
use Rattle.ldp_sweep.specs.declared.stretch.Stretch.{Stretch}
use Rattle.ldp_sweep.specs.Cut.{IsCut}
use Rattle.ldp_stretch.specs.declared.stretches.Stretches.{Stretches}

-- at each cell, the results of the cell list, none where they are undefined
abbrev pub Rows : Type 0
Rows = List (Option (List ℤ))

-- how many results the cell list has
abbrev pub width_of : PreparedCells → ℕ
width_of p = length p.lists.cell.outs

-- the results at a cell are defined, and this is the one of them at a place
pub record IsNumberAt (rows : Rows) (cell place : ℕ) (number : ℤ) : Type 0 where
  pub row : List ℤ
  pub is : slice_get rows cell ≡ Some (Some row)
  pub here : slice_get row place ≡ Some number

-- the result at a cell and a place is there and lies in the range
pub record LiesAt (rows : Rows) (cell place : ℕ) (range : ℤ × ℤ) : Type 0 where
  pub number : ℤ
  pub is : IsNumberAt rows cell place number
  pub lies : LiesIn number range

-- the result at a place is there at each cell from one to another, and lies in the range
abbrev pub HoldsColumn : Rows → ℕ → ℕ → ℕ → ℤ × ℤ → Type 0
HoldsColumn rows from to place range =
    (cell : ℕ) → from ≤ cell → cell < to → LiesAt rows cell place range

-- so many ranges from a place on hold the results at each cell of a node, one each
pub record IsHull (rows : Rows) (width : ℕ) (ranges : List (ℤ × ℤ)) (node : Stretch) (begin : ℕ)
    : Type 0 where
  pub some : 0 < width
  pub within : begin + width ≤ length ranges
  pub holds : (place : ℕ) (range : ℤ × ℤ) → place < width
      → slice_get ranges (begin + place) ≡ Some range
      → HoldsColumn rows node.from node.to place range

-- each node has a hull that begins at its place, or none is known
pub record AreHulls (rows : Rows) (width : ℕ) (nodes : List Stretch) (begins : List (Option ℕ))
    (ranges : List (ℤ × ℤ)) : Type 0 where
  pub count : length begins ≡ length nodes
  pub each : (at : ℕ) (node : Stretch) (begin : ℕ) → slice_get nodes at ≡ Some node
      → slice_get begins at ≡ Some (Some begin) → IsHull rows width ranges node begin

-- the results at a cell are defined, and each lies in its range
pub record RowLiesIn (rows : Rows) (cell : ℕ) (hull : List (ℤ × ℤ)) : Type 0 where
  pub row : List ℤ
  pub is : slice_get rows cell ≡ Some (Some row)
  pub lies : Pairwise LiesIn row hull

-- the results at each cell of a node are defined and lie in the hull
abbrev pub HoldsRows : Rows → Stretch → List (ℤ × ℤ) → Type 0
HoldsRows rows node hull =
    (cell : ℕ) → node.from ≤ cell → cell < node.to → RowLiesIn rows cell hull

-- the stretches are those of these prepared cells, and so are the hulls
pub record AreStretches (p : PreparedCells) (stretches : Stretches) : Type 0 where
  pub cut : IsCut (length p.results) stretches.nodes.items
  pub hulls : AreHulls p.results (width_of p) stretches.nodes.items stretches.begins.items
      stretches.ranges.items

-- more ranges after the old ones
pub record IsLonger (old new : List (ℤ × ℤ)) : Type 0 where
  pub more : List (ℤ × ℤ)
  pub is : new ≡ old ++ more
