use Rattle.std.proofs.Common.{◌||◌, ◌&&◌, nat_le, nat_lt, false, slice_index_or}
use Rattle.std.proofs.Common.{arith, ap, ◌∙◌}
use Rattle.ldp_cells.specs.Rows.{Filling}
use Rattle.ldp_cells.proofs.Filling.{marked_columns}
use Rattle.ldp_cells.proofs.scanline.Scanline.mark_columns.Goals as goal

pub returns-clause-marks : goal.returns-clause-marks
returns-clause-marks c = λ column within.
    let last = c.loop-column.column in
    let first = c.args.first in
    marked_columns (slice_index_or c.args.self.now.marks column false)
    (slice_index_or c.loop-column.self-inside.marks.items column false) first c.args.end
    last column (omega arith) (omega arith) (omega arith)
    (c.loop-column.invariant.marks column within
    ∙ ap (λ (f : Filling). slice_index_or f.marks column false
    || (nat_le first column && nat_lt column last)) c.self.view_is)
