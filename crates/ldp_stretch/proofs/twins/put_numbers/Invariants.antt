use Rattle.std.proofs.Common.{◌≡◌, take}
use Rattle.ldp_stretch.specs.Twins.{number_twins}
use Rattle.ldp_stretch.proofs.twins.put_numbers.Given as goal

abbrev pub invariant-loop-i : goal.invariant-loop-i
invariant-loop-i l = take l.i l.twins ≡ number_twins (take l.i l.numbers)
