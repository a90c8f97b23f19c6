use Rattle.ldp_cells.proofs.Outlines.{area_near}
use Rattle.ldp_cells.proofs.choose.area_cells.Goals as goal

pub cells_where-requires-clause-near : goal.cells_where-requires-clause-near
cells_where-requires-clause-near c = area_near
