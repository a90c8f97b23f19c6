use Rattle.std.proofs.Common.{◌≡◌, map, take}
use Rattle.ldp_num.specs.Written.{written}
use Rattle.ldp_distortion.proofs.prepared.put_constants.Given as goal

abbrev pub invariant-loop-i : goal.invariant-loop-i
invariant-loop-i g l =
    map g.N.Num.meaning (take l.i l.inputs) ≡ map (written g.N.Num.CARRIER).constant
    (take l.i l.values)
