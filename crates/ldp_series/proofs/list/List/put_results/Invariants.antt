use Rattle.std.proofs.Common.{◌≡◌, map, take}
use Rattle.std.specs.Prelude.{Some}
use Rattle.ldp_num.specs.StepList.{at_places}
use Rattle.ldp_series.proofs.list.List.put_results.Given as goal

-- what the places of the results up to now hold is written
abbrev pub invariant-loop-i : goal.invariant-loop-i
invariant-loop-i g l =
    at_places (map g.N.Num.meaning l.bench.results) (take l.i l.self.outs)
    ≡ Some (map g.N.Num.meaning (take l.i l.results))
