-- The cells that were raised so far, and one more.
use Rattle.std.proofs.Common.{◌≡◌, ap, ◌∙◌, ℕ, ◌+◌, ◌<◌, ℤ, List, [], ◌∷◌, ◌++◌, length}
use Rattle.std.proofs.Common.{take, get_or}
use Rattle.std.proofs.lemmas.List.{take_more, map-append}
use Rattle.ldp_cells.specs.Range.{raised, raised_cell}
use Rattle.ldp_cells.specs.declared.cell.Cell.{Cell}

pub raised_more : (by : ℤ) (cells : List Cell) (i : ℕ) (d : Cell) → i < length cells
    → raised by (take (i + 1) cells)
    ≡ raised by (take i cells) ++ raised_cell by (get_or cells i d) ∷ []
raised_more by cells i d h =
    ap (raised by) (take_more cells i d h)
    ∙ map-append (raised_cell by) (take i cells) (get_or cells i d ∷ [])
