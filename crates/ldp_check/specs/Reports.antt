-- The report of a design, and where a printed one differs. (Own choice of this project.)
use Rattle.std.specs.Prelude.{ℕ, ◌==◌, ◌&&◌, ℤ, Bool, true, false, not, List, length}
use Rattle.std.specs.Prelude.{[], ◌∷◌, position, Option, option_map, slice_get}
use Rattle.std.specs.Option.{option_zip}
use Rattle.std.specs.Ordering.{int_eq}
use Rattle.ldp_design.specs.declared.family.Kind.{Kind}
use Rattle.ldp_design.specs.declared.family.Kind.TheVariants.{Tm, Lambert, Hotine, Lambert2}
use Rattle.ldp_design.specs.declared.family.Family.{Family}
use Rattle.ldp_design.specs.declared.design.Design.{Design}
use Rattle.ldp_design.specs.Families.{family_of, value_at}
use Rattle.ldp_cells.specs.declared.cell.Cell.{Cell}
use Rattle.ldp_cells.specs.Cells.{CellList}
use Rattle.ldp_job.specs.declared.report.Report.{Report}

-- the values of a design of a family, its worst distortion with the row and column of its cell,
-- the numbers of cells and of missing heights, and the number of nodes
abbrev pub report_at : Family → Cell → CellList → Design → ℤ → ℕ → Report
report_at f at list d worst nodes = record {
  kind = f.kind;
  lat = value_at f.lat d.lat;
  lon = value_at f.lon d.lon;
  azimuth = value_at f.azimuth d.azimuth;
  scale = value_at f.scale d.scale;
  ppm = worst;
  row = at.row;
  col = at.col;
  cells = length list.cells;
  missing = list.missing;
  nodes = nodes;
}

-- the report of a design, if its family and the cell exist
abbrev pub report_of : List Family → CellList → Design → ℤ → ℕ → ℕ → Option Report
report_of families list d worst cell nodes =
    option_map (λ (f, at). report_at f at list d worst nodes)
    (option_zip (family_of families d.family) (slice_get list.cells cell))

-- the kinds are the same
abbrev pub is_kind : Kind → Kind → Bool
is_kind Tm Tm = true
is_kind Lambert Lambert = true
is_kind Hotine Hotine = true
is_kind Lambert2 Lambert2 = true
is_kind _ _ = false

-- the worst distortions are at the same place of the grid of heights
abbrev pub same_place : Report → Report → Bool
same_place a b = a.row == b.row && a.col == b.col

-- the numbers of cells and of missing heights are the same
abbrev pub same_cells : Report → Report → Bool
same_cells a b = a.cells == b.cells && a.missing == b.missing

-- which of the nine lines of two reports are the same: the kind, the four values, the worst
-- distortion, its place, the numbers of cells, and the number of nodes
abbrev pub same_lines : Report → Report → List Bool
same_lines a b =
    is_kind a.kind b.kind ∷ int_eq a.lat b.lat ∷ int_eq a.lon b.lon
    ∷ int_eq a.azimuth b.azimuth ∷ int_eq a.scale b.scale ∷ int_eq a.ppm b.ppm
    ∷ same_place a b ∷ same_cells a b ∷ (a.nodes == b.nodes) ∷ []

-- the first line, from 0, of a report that is not that of another one
abbrev pub differing_line : Report → Report → Option ℕ
differing_line printed actual = position not (same_lines printed actual)
