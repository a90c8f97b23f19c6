use Rattle.std.proofs.Common.{◌≡◌, ◌++◌, All, drop}
use Rattle.ldp_zone.specs.Inside.{edges_from}
use Rattle.ldp_zone.specs.Area.{IsNear, IsEdge}
use Rattle.ldp_cells.proofs.outline.push_from.Given as goal

abbrev pub invariant-loop-point : goal.invariant-loop-point
invariant-loop-point l = record {
  value : l.edges.items ++ edges_from l.start (drop l.point-index l.rest)
      ≡ l.initial.edges.items ++ edges_from l.fn.first l.rest;
  range : All IsEdge l.edges.items;
  start : IsNear l.start;
}
