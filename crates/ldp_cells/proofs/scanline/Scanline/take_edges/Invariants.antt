use Rattle.std.proofs.Common.{take}
use Rattle.ldp_cells.specs.Rows.{HoldsEdges}
use Rattle.ldp_cells.proofs.scanline.Scanline.take_edges.Given as goal

abbrev pub invariant-loop-edge : goal.invariant-loop-edge
invariant-loop-edge l = HoldsEdges l.row (take l.edge-index l.edges) l.self
