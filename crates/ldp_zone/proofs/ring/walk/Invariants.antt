use Rattle.std.proofs.Common.{◌≡◌, drop}
use Rattle.ldp_zone.specs.Inside.{edges_from}
use Rattle.ldp_zone.specs.Area.{IsNear}
use Rattle.ldp_zone.specs.Walk.{walk}
use Rattle.ldp_zone.proofs.ring.walk.Given as goal

abbrev pub invariant-loop-point : goal.invariant-loop-point
invariant-loop-point l = record {
  same : walk l.at l.odd (edges_from l.start (drop l.point-index l.rest)) ≡ walk l.at l.fn.odd
      (edges_from l.fn.first l.rest);
  start : IsNear l.start;
}
