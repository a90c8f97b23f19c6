use Rattle.std.proofs.Common.{◌≡◌, take}
use Rattle.ldp_series.specs.Cut.{AreParts}
use Rattle.ldp_series.proofs.cut.halves_of.Given as goal

abbrev pub invariant-loop-step : goal.invariant-loop-step
invariant-loop-step l = record {
  parts : AreParts l.stays (take l.step-index l.list.steps) l.halves;
  inputs : l.halves.inputs ≡ l.list.inputs;
}
