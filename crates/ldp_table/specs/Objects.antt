-- The table as one JSON object (RFC 8259) in a line.
use Rattle.std.specs.Prelude.{ℕ, ℤ, pos, List, [], ◌∷◌, ◌++◌, map, codes}
use Rattle.serde_json.specs.Data.{Data, number, unsigned, string, array, object, no_items, item}
use Rattle.serde_json.specs.Data.{no_members, member}
use Rattle.serde_json.specs.View.{items_of}
use Rattle.serde_json.specs.Written.{compact_text}
use Rattle.ldp_distortion.specs.declared.worst.Worst.{Worst}
use Rattle.ldp_distortion.specs.declared.worst.Worst.TheVariants.{Is, Unusable}
use Rattle.ldp_table.specs.declared.row.Row.{Row}
use Rattle.ldp_table.specs.Bands.{counts_of}
use Rattle.ldp_table.specs.Texts.{ppm_text}

-- a count as a JSON number
abbrev pub count_data : ℕ → Data
count_data n = number (unsigned n)

-- a distortion in parts per million
abbrev pub ppm_data : ℤ → Data
ppm_data z = string (ppm_text z)

-- row, column and distortion of a cell
abbrev pub row_data : Row → Data
row_data row =
    array (item (count_data row.cell.row)
    (item (count_data row.cell.col) (item (ppm_data row.distortion) no_items)))

-- the value of the worst cell
abbrev pub worst_value : Worst → ℤ
worst_value (Is value cell) = value
worst_value (Unusable cell) = pos 0

-- the object of a table, with its members in this order
abbrev pub object_of : Data → Data → Data → Data → Data
object_of bands cells missing worst =
    object (member (codes "bands") bands
    (member (codes "cells") cells
    (member (codes "missing") missing
    (member (codes "worst") worst no_members))))

-- how many cells lie in each band, the cells, how many places have no height, and the worst
abbrev pub table_data : List Row → ℕ → ℤ → Data
table_data rows missing worst =
    object_of (array (items_of (map count_data (counts_of rows))))
    (array (items_of (map row_data rows))) (count_data missing) (ppm_data worst)

-- its text with no space, and a line feed
unfoldable pub json_text : List Row → ℕ → ℤ → List ℕ
json_text rows missing worst = compact_text (table_data rows missing worst) ++ 10 ∷ []
