use Rattle.std.proofs.Common.{◌≡◌, length}
use Rattle.ldp_num.specs.Steps.{StepsFit}
use Rattle.ldp_series.specs.StepList.{input_steps}
use Rattle.ldp_series.proofs.build.Build.new.Given as goal

abbrev pub invariant-loop-i : goal.invariant-loop-i
invariant-loop-i l = record {
  steps : l.steps.items ≡ input_steps l.i;
  count : length l.steps.items ≡ l.i;
  fit : StepsFit l.inputs 0 l.steps.items;
}
