use Rattle.std.proofs.Common.{◌≡◌, ◌≤◌, length, map, take, drop}
use Rattle.ldp_num.specs.Steps.{StepsFit, results_from, results_of}
use Rattle.ldp_num.specs.Written.{written}
use Rattle.ldp_num.proofs.bench.run_into.Given as goal

-- what the places up to now hold and the steps that are left give the results of all steps
abbrev pub invariant-loop-i : goal.invariant-loop-i
invariant-loop-i g l =
    let ops = written g.N.Num.CARRIER in
    let inputs = map g.N.Num.meaning l.inputs in
    record {
      room : length l.steps ≤ length l.places;
      fit : StepsFit (length l.inputs) l.i (drop l.i l.steps);
      rest : results_from ops inputs (map g.N.Num.meaning (take l.i l.places)) (drop l.i l.steps)
          ≡ results_of ops inputs l.steps;
    }
