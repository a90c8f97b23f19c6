use Rattle.std.proofs.Common.{◌≡◌}
use Rattle.ldp_sweep.specs.Peaks.{IsTally}
use Rattle.ldp_sweep.proofs.tally.look_at.Given as goal

abbrev pub invariant-loop-cell : goal.invariant-loop-cell
invariant-loop-cell g l = record {
  tally : IsTally (g.S.Sweep.cut l.fn.sweep) l.tolerance l.cell l.tally;
  same : g.S.Sweep.cut l.sweep ≡ g.S.Sweep.cut l.fn.sweep;
}
