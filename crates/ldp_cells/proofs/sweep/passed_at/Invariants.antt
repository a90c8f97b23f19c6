use Rattle.std.proofs.Common.{ℕ, ◌-◌, ◌<◌, ◌≤◌, length, slice_index}
use Rattle.ldp_cells.proofs.sweep.passed_at.Given as goal

abbrev pub invariant-loop-passed : goal.invariant-loop-passed
invariant-loop-passed l = record {
  few : l.passed ≤ length l.crossings;
  before : (k : ℕ) → k < l.passed → slice_index l.crossings k ≤ l.column;
}

abbrev pub decreases-loop-passed : goal.decreases-loop-passed
decreases-loop-passed l = length l.crossings - l.passed
