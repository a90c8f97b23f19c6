use Rattle.std.proofs.Common.{◌≡◌, ◌≤◌, length, take}
use Rattle.ldp_num.specs.Number.{limit}
use Rattle.ldp_num.specs.Steps.{most_steps}
use Rattle.ldp_problem.specs.Costs.{at_cells}
use Rattle.ldp_bound.specs.Kept.{low_from}
use Rattle.ldp_bound.specs.Summary.{tally_of}
use Rattle.ldp_bound.proofs.lows.told.Given as goal

abbrev pub invariant-loop-cell : goal.invariant-loop-cell
invariant-loop-cell l = record {
  told :
      l.tally
      ≡ tally_of l.kept.tolerance
      (at_cells (low_from l.prepared (take (length l.prepared.lists.design.outs) l.fn.inputs))
      l.cell);
  kept : take (length l.prepared.lists.design.outs) l.inputs
      ≡ take (length l.prepared.lists.design.outs) l.fn.inputs;
  room : l.bench.room ≡ most_steps;
  over : l.tally.over ≤ l.cell;
  small : l.tally.value ≤ limit;
}
