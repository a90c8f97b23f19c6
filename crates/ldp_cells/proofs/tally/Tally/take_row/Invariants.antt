use Rattle.std.proofs.Common.{◌≡◌, ℕ, ◌+◌, ◌*◌, ◌<◌, ◌≤◌, Bool, false, slice_index_or}
use Rattle.ldp_zone.specs.declared.point.Point.{Point}
use Rattle.ldp_cells.specs.Cells.{centre}
use Rattle.ldp_cells.specs.Tallies.{IsTally}
use Rattle.ldp_cells.proofs.tally.Tally.take_row.Given as goal

abbrev pub invariant-loop-column : goal.invariant-loop-column
invariant-loop-column l = record {
  few : l.self.count + l.self.missing ≤ l.row * l.heights.cols + l.column;
  tally : (test : Point → Bool)
      → ((column : ℕ) → column < l.heights.cols
      → slice_index_or l.marks column false ≡ test (centre l.heights l.row column))
      → IsTally test l.heights (l.row * l.heights.cols) l.initial.self
      → IsTally test l.heights (l.row * l.heights.cols + l.column) l.self;
}
