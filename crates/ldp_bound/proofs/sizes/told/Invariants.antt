use Rattle.std.proofs.Common.{◌≡◌, ◌≤◌, ◌<◌, ℕ, false, length, take}
use Rattle.std.specs.Option.{is_none}
use Rattle.ldp_num.specs.Number.{limit}
use Rattle.ldp_num.specs.Steps.{most_steps}
use Rattle.ldp_distortion.specs.Inputs.{numbers}
use Rattle.ldp_problem.specs.Costs.{at_cells}
use Rattle.ldp_bound.specs.Kept.{size_from}
use Rattle.ldp_bound.specs.Summary.{tally_of}
use Rattle.ldp_bound.proofs.Loops.{told_sizes}
use Rattle.ldp_bound.proofs.sizes.told.Given as goal

abbrev pub invariant-loop-cell : goal.invariant-loop-cell
invariant-loop-cell l = record {
  told :
      l.tally
      ≡ tally_of l.kept.tolerance
      (at_cells (told_sizes
      (size_from l.prepared (numbers (take (length l.prepared.lists.design.outs) l.fn.inputs))))
      l.cell);
  defined :
      (k : ℕ) → k < l.cell
      → is_none (size_from l.prepared
      (numbers (take (length l.prepared.lists.design.outs) l.fn.inputs)) k) ≡ false;
  kept : take (length l.prepared.lists.design.outs) l.inputs
      ≡ take (length l.prepared.lists.design.outs) l.fn.inputs;
  room : l.bench.room ≡ most_steps;
  over : l.tally.over ≤ l.cell;
  small : l.tally.value ≤ limit;
}
