use Rattle.std.proofs.Common.{◌≡◌, ◌≤◌, length}
use Rattle.ldp_sweep.specs.Cut.{start}
use Rattle.ldp_sweep.specs.Peaks.{IsTally}
use Rattle.ldp_sweep.proofs.tally.tally_of.Given as goal

abbrev pub invariant-loop-height : goal.invariant-loop-height
invariant-loop-height g l = let cut = g.S.Sweep.cut l.fn.sweep in record {
  tally : IsTally cut l.tolerance (start cut.cells cut.nodes l.height) l.tally;
  within : l.height ≤ length cut.nodes;
  same : g.S.Sweep.cut l.sweep ≡ cut;
}

abbrev pub decreases-loop-height : goal.decreases-loop-height
decreases-loop-height g l = l.height
