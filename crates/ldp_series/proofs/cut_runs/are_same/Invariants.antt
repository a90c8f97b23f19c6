use Rattle.std.proofs.Common.{◌≡◌, map, take}
use Rattle.ldp_series.proofs.cut_runs.are_same.Given as goal

abbrev pub invariant-loop-i : goal.invariant-loop-i
invariant-loop-i g l =
    map g.N.Num.meaning (take l.i l.xs) ≡ map g.N.Num.meaning (take l.i l.ys)
