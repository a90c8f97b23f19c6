-- The linear distortion of a design at a cell, k R / (R + h) - 1. (NOAA SP NOS NGS 13.)
use Rattle.std.specs.Prelude.{ℤ, List, ◌++◌, map, Option, option_and_then}
use Rattle.ldp_num.specs.Written.{Ops, number_ops}
use Rattle.ldp_num.specs.StepList.{StepList, value, value_in, first_result}
use Rattle.ldp_series.specs.declared.list.Lists.{Lists}
use Rattle.ldp_cells.specs.declared.cell.Cell.{Cell}
use Rattle.ldp_distortion.specs.Inputs.{design_inputs, cell_inputs}
use Rattle.ldp_distortion.specs.declared.inputs.Inputs.{Inputs}

-- the results of a design list; None if it is undefined
abbrev pub design_results : StepList → Inputs → Option (List ℤ)
design_results list at = value list (design_inputs at)

-- the results of a cell list at a cell; None if it is undefined there
abbrev pub cell_results : StepList → Cell → Option (List ℤ)
cell_results list cell = value list (cell_inputs cell)

-- in any carrier: the first result of the joint list over the results of the design list and then
-- those of the cell list, which are constants; undefined where one of the three lists is
unfoldable pub joined_in : {A : Type 0} → Ops A → Lists
    → Option (List A) → Option (List ℤ) → Option A
joined_in ops lists of_design of_cell =
    option_and_then
    (λ design. option_and_then (λ cell.
    first_result (value_in ops lists.joint (design ++ map ops.constant cell))) of_cell) of_design

-- in any carrier: the distortion from the inputs of the design list and the results of the cell
-- list
unfoldable pub distortion_in : {A : Type 0} → Ops A → Lists → List A → Option (List ℤ) → Option A
distortion_in ops lists inputs of_cell =
    joined_in ops lists (value_in ops lists.design inputs) of_cell

-- the same over numbers
abbrev pub joined : Lists → Option (List ℤ) → Option (List ℤ) → Option ℤ
joined lists of_design of_cell = joined_in number_ops lists of_design of_cell

-- the linear distortion of a design at a cell, in units of 10^-15; None if one of the three lists
-- is undefined
unfoldable pub distortion : Lists → Inputs → Cell → Option ℤ
distortion lists at cell =
    distortion_in number_ops lists (design_inputs at) (cell_results lists.cell cell)

-- the distortions of a design at the cells in order
abbrev pub distortions : Lists → Inputs → List Cell → List (Option ℤ)
distortions lists at cells = map (distortion lists at) cells
