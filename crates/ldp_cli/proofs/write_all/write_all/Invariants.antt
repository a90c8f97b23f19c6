use Rattle.std.proofs.Common.{◌-◌, ◌≤◌, length}
use Rattle.ldp_cli.specs.Growth.{GrowsBy}
use Rattle.ldp_cli.proofs.write_all.write_all.Given as goal

abbrev pub invariant-loop-count : goal.invariant-loop-count
invariant-loop-count g l = record {
  grown : GrowsBy l.count l.text (g.O.Sink.written l.fn.sink) (g.O.Sink.written l.sink);
  within : l.count ≤ length l.text;
  faults_later : g.O.Sink.faults l.fn.sink ≤ g.O.Sink.faults l.sink;
  wants_later : g.O.Sink.wants l.fn.sink ≤ g.O.Sink.wants l.sink;
}

abbrev pub decreases-loop-count : goal.decreases-loop-count
decreases-loop-count g l = length l.text - l.count
