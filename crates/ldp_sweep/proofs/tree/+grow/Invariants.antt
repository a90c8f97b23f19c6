use Rattle.std.proofs.Common.{◌≤◌, ◌-◌}
use Rattle.ldp_sweep.specs.Grown.{IsGrownFrom}
use Rattle.ldp_sweep.proofs.tree.+grow.Given as goal

abbrev pub invariant-loop-end : goal.invariant-loop-end
invariant-loop-end l = record {
  grown : IsGrownFrom l.fn.nodes.items l.nodes.items l.end l.to;
  low : l.from ≤ l.end;
  high : l.end ≤ l.to;
}

abbrev pub decreases-loop-end : goal.decreases-loop-end
decreases-loop-end l = l.end - l.from

abbrev pub decreases-grow : goal.decreases-grow
decreases-grow l = l.to - l.from
