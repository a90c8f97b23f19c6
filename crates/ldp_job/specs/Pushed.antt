-- Parts of a line and of a report, as the writer puts them together.
use Rattle.std.specs.Prelude.{ℕ, List, [], ◌∷◌, codes, decimal}
use Rattle.std.specs.List.{flat_map}
use Rattle.ldp_decimal.specs.Writing.{decimal_text, trimmed_text}
use Rattle.ldp_spelling.specs.Texts.{Words}
use Rattle.ldp_design.specs.declared.axis.AxisName.TheVariants.{Lat, Lon, Azimuth, Scale}
use Rattle.ldp_design.specs.Words.{axis_text, kind_text}
use Rattle.ldp_job.specs.declared.report.Report.{Report}

-- words with a space before each
abbrev pub spaced : Words → List ℕ
spaced words = flat_map (λ word. 32 ∷ word) words

-- the lines of a report on the projection
abbrev pub projection_words : Report → List Words
projection_words r =
    (codes "kind" ∷ kind_text r.kind ∷ [])
    ∷ (axis_text Lat ∷ trimmed_text 12 r.lat ∷ [])
    ∷ (axis_text Lon ∷ trimmed_text 12 r.lon ∷ [])
    ∷ (axis_text Azimuth ∷ trimmed_text 12 r.azimuth ∷ [])
    ∷ (axis_text Scale ∷ trimmed_text 15 r.scale ∷ [])
    ∷ []

-- the line of the row and the column of the worst
abbrev pub place_words : Report → Words
place_words r = codes "at" ∷ decimal r.row ∷ decimal r.col ∷ []

-- the line of the number of cells, and of places without a height
abbrev pub counts_words : Report → Words
counts_words r = codes "cells" ∷ decimal r.cells ∷ codes "missing" ∷ decimal r.missing ∷ []

-- the lines of a report on the worst, the cells and the nodes
abbrev pub cell_words : Report → List Words
cell_words r =
    (codes "ppm" ∷ decimal_text 9 r.ppm ∷ [])
    ∷ place_words r
    ∷ counts_words r
    ∷ (codes "nodes" ∷ decimal r.nodes ∷ [])
    ∷ []
