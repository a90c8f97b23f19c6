use Rattle.std.proofs.Common.{◌≡◌, All, take}
use Rattle.ldp_cells.specs.Range.{IsInRange, raised}
use Rattle.ldp_cells.proofs.cell.Cells.raised.Given as goal

abbrev pub invariant-loop-cell : goal.invariant-loop-cell
invariant-loop-cell l = record {
  raised : l.cells.items ≡ raised l.by (take l.cell-index l.cell-items);
  in_range : All IsInRange l.cells.items;
}
