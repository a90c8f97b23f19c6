use Rattle.std.proofs.Common.{◌≡◌, ◌<◌, ◌≤◌, length, take}
use Rattle.ldp_distortion.proofs.CellLoop.{GoesOn}
use Rattle.ldp_distortion.proofs.Joints.{from_inputs}
use Rattle.ldp_distortion.proofs.prepared.Prepared.worst_from.Given as goal

abbrev pub invariant-loop-cell : goal.invariant-loop-cell
invariant-loop-cell l = record {
  same : GoesOn (from_inputs l.self l.fn.inputs) l.value l.worst l.cell;
  kept : take (length l.self.lists.design.outs) l.inputs ≡ take (length l.self.lists.design.outs)
      l.fn.inputs;
  room : l.bench.room ≡ l.fn.bench.room;
  within : l.worst < length l.self.results;
  small : l.value ≤ 10000000000000000000;
}
