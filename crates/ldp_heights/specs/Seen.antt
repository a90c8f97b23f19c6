-- What the definitions see of the values that the code holds.
use Rattle.std.specs.Prelude.{ℤ, List, Option, Some, None, option_map, Result, Ok, Err}
use Rattle.ldp_heights.specs.Grid.{Coordinate, corner, centre}
use Rattle.ldp_heights.specs.Classes.{Class, nan, millimetres, too_high, too_low}
use Rattle.ldp_heights.specs.Header.{Name, ncols, nrows, xllcorner, xllcenter, yllcorner, yllcenter}
use Rattle.ldp_heights.specs.Header.{cellsize, nodata_value, Header, Layout}
use Rattle.ldp_heights.specs.Stages.{SoFar, Stage, at_word, at_value, at_height}
use Rattle.ldp_heights.specs.declared.coordinate.Coordinate.{Coordinate as HeldCoordinate}
use Rattle.ldp_heights.specs.declared.coordinate.Coordinate.TheVariants.{Corner, Centre}
use Rattle.ldp_heights.specs.declared.class.Class.{Class as HeldClass}
use Rattle.ldp_heights.specs.declared.class.Class.TheVariants.{Nan, Millimetres, TooHigh, TooLow}
use Rattle.ldp_heights.specs.declared.header_word.HeaderWord.{HeaderWord}
use Rattle.ldp_heights.specs.declared.header_word.HeaderWord.TheVariants as held
use Rattle.ldp_heights.specs.declared.header.Header.{Header as HeldHeader}
use Rattle.ldp_heights.specs.declared.layout.Layout.{Layout as HeldLayout}
use Rattle.ldp_heights.specs.declared.stage.Stage.{Stage as HeldStage}
use Rattle.ldp_heights.specs.declared.stage.Stage.TheVariants as held_stage
use Rattle.ldp_heights.specs.declared.fault.HeightFault.{HeightFault}

-- a coordinate that the code holds, as the definitions name it
abbrev pub coordinate_seen : HeldCoordinate → Coordinate
coordinate_seen (Corner edge) = corner edge
coordinate_seen (Centre first) = centre first

-- a class that the code holds, as the definitions name it
abbrev pub class_seen : HeldClass → Class
class_seen Nan = nan
class_seen (Millimetres n) = millimetres n
class_seen TooHigh = too_high
class_seen TooLow = too_low

-- a word of the header that the code holds, as the definitions name it
abbrev pub name_seen : HeaderWord → Name
name_seen held.Ncols = ncols
name_seen held.Nrows = nrows
name_seen held.XllCorner = xllcorner
name_seen held.XllCenter = xllcenter
name_seen held.YllCorner = yllcorner
name_seen held.YllCenter = yllcenter
name_seen held.Cellsize = cellsize
name_seen held.NodataValue = nodata_value

-- the values of the header that the code has met, as the definitions name them
abbrev pub header_seen : HeldHeader → Header
header_seen met = record {
  ncols = met.ncols;
  nrows = met.nrows;
  x = option_map coordinate_seen met.x;
  y = option_map coordinate_seen met.y;
  cellsize = met.cellsize;
  nodata = option_map class_seen met.nodata;
}

-- a layout that the code holds, as the definitions name it
abbrev pub layout_seen : HeldLayout → Layout
layout_seen layout = record {
  cols = layout.cols;
  rows = layout.rows;
  x = coordinate_seen layout.x;
  y = coordinate_seen layout.y;
  spacing = layout.spacing;
  missing = class_seen layout.missing;
}

-- a result of a held value, seen
abbrev pub result_seen : {A B : Type 0} → (A → B) → Result A HeightFault → Result B HeightFault
result_seen see (Ok held_value) = Ok (see held_value)
result_seen see (Err fault) = Err fault

-- where the reader stands, with the heights that it has read so far
abbrev pub stage_seen : HeldStage → List (Option ℤ) → Stage
stage_seen (held_stage.Word met) heights = at_word (header_seen met)
stage_seen (held_stage.Value met word) heights = at_value (header_seen met) (name_seen word)
stage_seen (held_stage.Height layout) heights = at_height (layout_seen layout) heights

-- what was read so far, unless there was a fault
abbrev pub sofar_seen : Option HeightFault → Stage → SoFar
sofar_seen None stage = Ok stage
sofar_seen (Some fault) stage = Err fault
