use Rattle.std.proofs.Common.{◌≡◌, ◌++◌, All, drop}
use Rattle.ldp_zone.specs.Inside.{edges}
use Rattle.ldp_zone.specs.Area.{IsEdge}
use Rattle.ldp_cells.proofs.outline.edges_of.Given as goal

abbrev pub invariant-loop-i : goal.invariant-loop-i
invariant-loop-i l = record {
  value : l.edges.items ++ edges (drop l.i l.zone) ≡ edges l.zone;
  range : All IsEdge l.edges.items;
}
