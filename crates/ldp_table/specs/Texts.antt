-- The table as a text: lines of words. (Own choice of this project.)
use Rattle.std.specs.Prelude.{ℕ, ℤ, List, [], ◌∷◌, ◌++◌, length, map, codes, decimal}
use Rattle.ldp_decimal.specs.Writing.{decimal_text, trimmed_text}
use Rattle.ldp_spelling.specs.Texts.{Words, lines_text}
use Rattle.ldp_table.specs.declared.row.Row.{Row}
use Rattle.ldp_table.specs.Bands.{edges, counts_of}

-- a distortion in parts per million, with nine decimals
abbrev pub ppm_text : ℤ → List ℕ
ppm_text z = decimal_text 9 z

-- row, column, latitude and longitude in degrees, height in metres, distortion with its sign
abbrev pub row_words : Row → Words
row_words row =
    decimal row.cell.row ∷ decimal row.cell.col ∷ trimmed_text 12 row.cell.y
    ∷ trimmed_text 12 row.cell.x ∷ trimmed_text 3 row.cell.mm ∷ ppm_text row.distortion ∷ []

-- the line of the number of cells, and of places without a height
abbrev pub cells_words : ℕ → ℕ → Words
cells_words cells missing =
    codes "cells" ∷ decimal cells ∷ codes "missing" ∷ decimal missing ∷ []

-- the line of a band: its upper end in parts per million, and how many cells lie in it
abbrev pub band_words : ℕ → ℕ → Words
band_words edge count = codes "band" ∷ decimal edge ∷ decimal count ∷ []

-- the line of the cells that lie in no band
abbrev pub over_words : ℕ → Words
over_words count = codes "over" ∷ decimal count ∷ []

-- a line for each band, and one for what is over
abbrev pub bands_words : List ℕ → List ℕ → List Words
bands_words [] [] = []
bands_words [] (count ∷ counts) = over_words count ∷ []
bands_words (edge ∷ ends) [] = []
bands_words (edge ∷ ends) (count ∷ counts) = band_words edge count ∷ bands_words ends counts

-- all lines of the table: a line for each cell, then the counts
abbrev pub table_words : List Row → ℕ → List Words
table_words rows missing =
    map row_words rows
    ++ cells_words (length rows) missing ∷ bands_words edges (counts_of rows)

-- the table of these rows, beside which so many places have no height
unfoldable pub table_text : List Row → ℕ → List ℕ
table_text rows missing = lines_text (table_words rows missing)
