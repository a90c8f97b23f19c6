use Rattle.std.proofs.Common.{◌≡◌, ℕ, ◌<◌, false, length, slice_index_or}
use Rattle.ldp_cells.specs.Cells.{in_area}
use Rattle.ldp_cells.specs.Rows.{column_centre}
use Rattle.ldp_cells.proofs.scanline.Scanline.mark_area.Given as goal

abbrev pub invariant-loop-column : goal.invariant-loop-column
invariant-loop-column l = record {
  each : length l.self-inside.marks.items ≡ l.row.cols;
  tests : (column : ℕ) → column < l.column
      → slice_index_or l.self-inside.marks.items column false
      ≡ in_area (column_centre l.row column);
}
