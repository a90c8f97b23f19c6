use Rattle.std.proofs.Common.{◌≡◌}
use Rattle.ldp_sweep.specs.Peaks.{IsAtCell}
use Rattle.ldp_sweep.proofs.hints.hinted.Given as goal

abbrev pub invariant-loop-hint : goal.invariant-loop-hint
invariant-loop-hint g l = record {
  at_cell : IsAtCell (g.S.Sweep.cut l.fn.sweep) l.peak;
  same : g.S.Sweep.cut l.sweep ≡ g.S.Sweep.cut l.fn.sweep;
}
