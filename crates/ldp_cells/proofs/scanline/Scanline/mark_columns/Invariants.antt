use Rattle.std.proofs.Common.{◌≡◌, ℕ, ◌<◌, ◌≤◌, max, ◌||◌, ◌&&◌, nat_le, nat_lt, false, length}
use Rattle.std.proofs.Common.{slice_index_or}
use Rattle.ldp_cells.proofs.scanline.Scanline.mark_columns.Given as goal

abbrev pub invariant-loop-column : goal.invariant-loop-column
invariant-loop-column l = record {
  within : l.column ≤ max l.first l.end;
  each : length l.self-inside.marks.items ≡ length l.initial.self-inside.marks.items;
  crossings : l.self-inside.crossings.items ≡ l.initial.self-inside.crossings.items;
  marks : (column : ℕ) → column < length l.fn.self.marks
      → slice_index_or l.self-inside.marks.items column false
      ≡ (slice_index_or l.initial.self-inside.marks.items column false
      || (nat_le l.first column && nat_lt column l.column));
}
