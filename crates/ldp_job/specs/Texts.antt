-- The text of a job (own choice of this project). Angles are in degrees, trimmed; the scale is
-- trimmed; `ppm` is the worst in parts per million, with nine decimals.
use Rattle.std.specs.Prelude.{ℕ, ℤ, unsigned_abs, List, [], ◌∷◌, ◌++◌, Option, Some, None, map}
use Rattle.std.specs.Prelude.{codes, decimal}
use Rattle.hex.specs.Hex.{encode_lower}
use Rattle.ldp_decimal.specs.Writing.{decimal_text, trimmed_text}
use Rattle.ldp_spelling.specs.Pieces.{line_of, text_of}
use Rattle.ldp_spelling.specs.Texts.{Words}
use Rattle.ldp_design.specs.declared.axis.AxisName.TheVariants.{Lat, Lon, Azimuth, Scale}
use Rattle.ldp_design.specs.declared.design.Design.{Design}
use Rattle.ldp_design.specs.declared.node.Node.{Node}
use Rattle.ldp_design.specs.declared.node.Node.TheVariants.{Tree, Split, Leaf, Unusable}
use Rattle.ldp_design.specs.Words.{axis_text, kind_text}
use Rattle.ldp_job.specs.declared.names.Names.{Names}
use Rattle.ldp_job.specs.declared.report.Report.{Report}
use Rattle.ldp_job.specs.declared.share.Share.{Share}
use Rattle.ldp_job.specs.declared.job.Job.{Job}

-- version 1 has no names
abbrev pub version_number : Option Names → ℕ
version_number None = 1
version_number (Some names) = 2

-- the line `ldp job` with the version
abbrev pub version_words : Option Names → Words
version_words names = codes "ldp" ∷ codes "job" ∷ decimal (version_number names) ∷ []

-- a line for each of the three files, with its hash in hexadecimal digits; none in version 1
abbrev pub names_words : Option Names → List Words
names_words None = []
names_words (Some names) =
    (codes "zone" ∷ encode_lower names.zone ∷ [])
    ∷ (codes "heights" ∷ encode_lower names.heights ∷ [])
    ∷ (codes "grids" ∷ encode_lower names.grids ∷ [])
    ∷ []

-- the line `design`: the number of the family, and the index on each axis
abbrev pub design_words : Design → Words
design_words d =
    codes "design" ∷ decimal d.family ∷ decimal d.lat ∷ decimal d.lon ∷ decimal d.azimuth
    ∷ decimal d.scale ∷ []

-- the number of cells beyond the tolerance, and the tolerance in units of 10^-15; no words without
-- a share
abbrev pub share_words : Option Share → Words
share_words None = []
share_words (Some s) = codes "over" ∷ decimal s.over ∷ codes "beyond"
    ∷ decimal (unsigned_abs s.tolerance) ∷ []

-- the line `worst`: its value in units of 10^-15, and the share
abbrev pub worst_words : ℤ → Option Share → Words
worst_words worst share = codes "worst" ∷ decimal (unsigned_abs worst) ∷ share_words share

-- the nine lines that a user reads: the projection, the worst and its place, the cells and the
-- nodes
abbrev pub report_words : Report → List Words
report_words r =
    (codes "kind" ∷ kind_text r.kind ∷ [])
    ∷ (axis_text Lat ∷ trimmed_text 12 r.lat ∷ [])
    ∷ (axis_text Lon ∷ trimmed_text 12 r.lon ∷ [])
    ∷ (axis_text Azimuth ∷ trimmed_text 12 r.azimuth ∷ [])
    ∷ (axis_text Scale ∷ trimmed_text 15 r.scale ∷ [])
    ∷ (codes "ppm" ∷ decimal_text 9 r.ppm ∷ [])
    ∷ (codes "at" ∷ decimal r.row ∷ decimal r.col ∷ [])
    ∷ (codes "cells" ∷ decimal r.cells ∷ codes "missing" ∷ decimal r.missing ∷ [])
    ∷ (codes "nodes" ∷ decimal r.nodes ∷ [])
    ∷ []

-- the line of an entry: `tree FAMILY`, `s AXIS INDEX`, `c CELL` or `u CELL`
abbrev pub entry_words : Node → Words
entry_words (Tree family) = codes "tree" ∷ decimal family ∷ []
entry_words (Split axis cut) = codes "s" ∷ axis_text axis ∷ decimal cut ∷ []
entry_words (Leaf cell) = codes "c" ∷ decimal cell ∷ []
entry_words (Unusable cell) = codes "u" ∷ decimal cell ∷ []

-- a line for each entry, and the line `end`
abbrev pub forest_words : List Node → List Words
forest_words entries = map entry_words entries ++ (codes "end" ∷ []) ∷ []

-- all lines of a job in order, each as its words
abbrev pub job_words : Job → List Words
job_words j =
    version_words j.names ∷ (names_words j.names
    ++ (design_words j.design ∷ worst_words j.worst j.share
    ∷ (report_words j.report ++ forest_words j.forest)))

-- the text of a job: its lines, each with a line feed behind it
unfoldable pub job_text : Job → List ℕ
job_text j = text_of (map line_of (job_words j))
