use Rattle.std.proofs.Common.{◌≡◌, ◌+◌, ◌*◌, ◌≤◌, length}
use Rattle.ldp_job.specs.Entries.{forest_at}
use Rattle.ldp_job.proofs.Walks.{with_front}
use Rattle.ldp_job.proofs.trees.forest_lines.Given as goal

abbrev pub invariant-entries : goal.invariant-entries
invariant-entries l = record {
  same : with_front l.forest (forest_at l.number l.nodes l.pending l.lines)
      ≡ forest_at l.fn.first 0 0 l.fn.lines;
  few : l.nodes ≤ 2000000;
  parts : l.pending ≤ l.nodes + 1;
  place : l.number ≤ l.fn.first + 2 * l.nodes + l.pending;
  entries : length l.forest + l.fn.first ≡ l.number;
}

abbrev pub decreases-entries : goal.decreases-entries
decreases-entries l = length l.lines
