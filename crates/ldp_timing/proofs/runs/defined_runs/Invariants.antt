use Rattle.std.proofs.Common.{◌≤◌, length}
use Rattle.ldp_timing.proofs.runs.defined_runs.Given as goal

abbrev pub invariant-loop-round : goal.invariant-loop-round
invariant-loop-round g l = record {
  room : length l.list.steps ≤ l.bench.room;
  few : l.defined ≤ l.round;
}
