use Rattle.std.proofs.Common.{◌≡◌, ◌+◌, ◌*◌, ◌≤◌, length}
use Rattle.ldp_cells.specs.Tallies.{IsTally}
use Rattle.ldp_cells.specs.Tests.{test_of}
use Rattle.ldp_cells.proofs.choose.cells_where.Given as goal

abbrev pub invariant-loop-number : goal.invariant-loop-number
invariant-loop-number l = record {
  each : length l.line.marks ≡ l.heights.cols;
  few : l.tally.count + l.tally.missing ≤ l.number * l.heights.cols;
  tally : IsTally (test_of l.region) l.heights (l.number * l.heights.cols) l.tally;
}
