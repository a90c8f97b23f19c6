-- What the worst of a design says of its distortions, and what prepared cells keep.
use Rattle.std.specs.Prelude.{◌≡◌, ◌↔◌, ℤ, List, Option}
use Rattle.ldp_series.specs.declared.list.Lists.{Lists}
use Rattle.ldp_cells.specs.declared.cell.Cell.{Cell}
use Rattle.ldp_distortion.specs.declared.inputs.Inputs.{Inputs}
use Rattle.ldp_distortion.specs.Distortion.{distortions}
use Rattle.ldp_distortion.specs.Prepared.{prepared, distortions_of}
use Rattle.ldp_distortion.specs.Worst.{worst_of, IsUsable, IsValue}

-- the worst is a value exactly where each distortion is defined
abbrev pub ValueWhereUsable : Type 0
ValueWhereUsable =
    (distortions : List (Option ℤ)) → IsValue (worst_of distortions) ↔ IsUsable distortions

-- the distortions over prepared cells are those over the cells
abbrev pub PreparedDistortions : Type 0
PreparedDistortions = (lists : Lists) (at : Inputs) (cells : List Cell)
    → distortions_of (prepared lists cells) at ≡ distortions lists at cells
