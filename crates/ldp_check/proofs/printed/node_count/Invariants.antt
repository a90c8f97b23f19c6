use Rattle.std.proofs.Common.{◌≡◌, ◌+◌, length, drop}
use Rattle.ldp_design.specs.Forests.{node_count}
use Rattle.ldp_check.proofs.printed.node_count.Given as goal

abbrev pub invariant-loop-i : goal.invariant-loop-i
invariant-loop-i l = record {
  counted : l.nodes + node_count (drop l.i l.forest) ≡ node_count l.forest;
  end : l.i-end ≡ length l.forest;
}
