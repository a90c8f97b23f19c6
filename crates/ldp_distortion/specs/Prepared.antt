-- Cells prepared for the lists of a projection: the cell list is run once at each cell.
use Rattle.std.specs.Prelude.{◌≡◌, ◌≤◌, ◌+◌, ℕ, ℤ, List, length, map, take, slice_get, Option, Some}
use Rattle.std.specs.Prelude.{option_and_then}
use Rattle.ldp_num.specs.Steps.{most_steps}
use Rattle.ldp_num.specs.Written.{Ops}
use Rattle.ldp_num.specs.declared.fix.Fix.{Fix}
use Rattle.ldp_series.specs.declared.list.Lists.{Lists}
use Rattle.ldp_cells.specs.declared.cell.Cell.{Cell}
use Rattle.ldp_distortion.specs.Distortion.{design_results, cell_results, joined, joined_in}
use Rattle.ldp_distortion.specs.Inputs.{numbers}
use Rattle.ldp_distortion.specs.Rows.{RowTable, AreRows}
use Rattle.ldp_distortion.specs.declared.inputs.Inputs.{Inputs}

-- The cell list takes latitude, longitude and height, the design list latitude, longitude, azimuth
-- and scale factor, and the joint list the results of the design list and of the cell list. It has
-- a result.
pub record FitTogether (lists : Lists) : Type 0 where
  pub cell : lists.cell.inputs ≡ 3
  pub design : lists.design.inputs ≡ 4
  pub joint : lists.joint.inputs ≡ length lists.design.outs + length lists.cell.outs
  pub result : 1 ≤ length lists.joint.outs

-- a bench with so much room has room for each list
pub record HasRoom (lists : Lists) (room : ℕ) : Type 0 where
  pub cell : length lists.cell.steps ≤ room
  pub design : length lists.design.steps ≤ room
  pub joint : length lists.joint.steps ≤ room

-- the lists, and the results of the cell list at each cell, none where they are undefined
pub record PreparedCells : Type 0 where
  pub lists : Lists
  pub results : List (Option (List ℤ))

-- each cell has as many results as the cell list, or none
abbrev pub HasRows : PreparedCells → Type 0
HasRows p = AreRows (length p.lists.cell.outs) p.results

-- the lists with the results of their cell list at each of these cells
abbrev pub prepared : Lists → List Cell → PreparedCells
prepared lists cells = record { lists = lists; results = map (cell_results lists.cell) cells }

-- the first of these inputs of the joint list, which the design list gives
abbrev pub first_numbers : PreparedCells → List Fix → List ℤ
first_numbers p inputs = numbers (take (length p.lists.design.outs) inputs)

-- the distortions at the prepared cells in order, from the results of the design list
abbrev pub distortions_from : PreparedCells → Option (List ℤ) → List (Option ℤ)
distortions_from p of_design = map (joined p.lists of_design) p.results

-- the distortions of a design
unfoldable pub distortions_of : PreparedCells → Inputs → List (Option ℤ)
distortions_of p at = distortions_from p (design_results p.lists.design at)

-- in any carrier: the distortion at one of the prepared cells
abbrev pub joined_at : {A : Type 0} → Ops A → PreparedCells → List A → ℕ → Option A
joined_at ops p of_design cell =
    option_and_then (joined_in ops p.lists (Some of_design)) (slice_get p.results cell)

-- what prepared cells keep
pub record IsPrepared (lists : Lists) (table : RowTable) : Type 0 where
  pub fit : FitTogether lists
  pub width : table.width ≡ length lists.cell.outs
  pub room : HasRoom lists most_steps
  pub rows : AreRows (length lists.cell.outs) table.rows
