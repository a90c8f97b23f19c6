use Rattle.std.proofs.Common.{ℕ, ◌<◌, ◌≤◌, length, slice_index}
use Rattle.ldp_cells.proofs.Sweeps.{AreSwept}
use Rattle.ldp_cells.proofs.sweep.sweep.Given as goal

abbrev pub invariant-loop-column : goal.invariant-loop-column
invariant-loop-column l = record {
  few : l.passed ≤ length l.crossings;
  before : (k : ℕ) → k < l.passed → slice_index l.crossings k ≤ l.column;
  swept : AreSwept l.crossings l.initial.marks l.column l.marks;
}
