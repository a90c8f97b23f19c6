use Rattle.std.proofs.Common.{◌≡◌, take}
use Rattle.ldp_stretch.specs.Twins.{range_twins, StandForRanges}
use Rattle.ldp_stretch.proofs.twins.put_ranges.Given as goal

abbrev pub invariant-loop-i : goal.invariant-loop-i
invariant-loop-i l = record {
  value : take l.i l.twins ≡ range_twins (take l.i l.ranges);
  stand : StandForRanges (take l.i l.ranges) (take l.i l.twins);
}
