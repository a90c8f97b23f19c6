-- The inputs of the lists of a projection, all of them numbers.
use Rattle.std.specs.Prelude.{ℤ, List, [], ◌∷◌, map}
use Rattle.ldp_num.specs.Number.{IsNumber}
use Rattle.ldp_num.specs.Units.{radians_of, height_number}
use Rattle.ldp_num.specs.declared.fix.Fix.{Fix}
use Rattle.ldp_cells.specs.declared.cell.Cell.{Cell}
use Rattle.ldp_distortion.specs.declared.inputs.Inputs.{Inputs}

-- the inputs of the design list
abbrev pub design_inputs : Inputs → List ℤ
design_inputs at = at.lat ∷ at.lon ∷ at.azimuth ∷ at.scale ∷ []

-- each of the four inputs of the design list is a number
pub record AreNumbers (at : Inputs) : Type 0 where
  pub lat : IsNumber at.lat
  pub lon : IsNumber at.lon
  pub azimuth : IsNumber at.azimuth
  pub scale : IsNumber at.scale

-- the inputs of the cell list: the latitude and the longitude of a cell, and its height over the
-- semi-major axis
abbrev pub cell_inputs : Cell → List ℤ
cell_inputs cell = radians_of cell.y ∷ radians_of cell.x ∷ height_number cell.mm ∷ []

-- the numbers of some `Fix` values
abbrev pub numbers : List Fix → List ℤ
numbers values = map (λ one. one.n) values
