use Rattle.std.proofs.Common.{◌≡◌, take}
use Rattle.ldp_stretch.specs.Twins.{hull_twins}
use Rattle.ldp_stretch.proofs.twins.put_hull.Given as goal

abbrev pub invariant-loop-i : goal.invariant-loop-i
invariant-loop-i l = take l.i l.twins ≡ hull_twins (take l.i l.hull)
