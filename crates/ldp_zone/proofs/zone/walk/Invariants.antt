use Rattle.std.proofs.Common.{◌≡◌, false, drop}
use Rattle.ldp_zone.specs.Area.{is_in_area}
use Rattle.ldp_zone.specs.Inside.{edges}
use Rattle.ldp_zone.specs.Walk.{walk}
use Rattle.ldp_zone.proofs.zone.walk.Given as goal

abbrev pub invariant-loop-ring : goal.invariant-loop-ring
invariant-loop-ring l = record {
  same : walk l.at l.odd (edges (drop l.ring-index l.rings)) ≡ walk l.at false (edges l.rings);
  outside : is_in_area l.at ≡ false → l.odd ≡ false;
}
