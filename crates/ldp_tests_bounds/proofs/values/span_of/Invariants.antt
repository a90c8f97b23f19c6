use Rattle.ldp_sweep.specs.Cut.{IsWithin}
use Rattle.ldp_tests_bounds.specs.Values.{value_in}
use Rattle.ldp_tests_bounds.proofs.values.span_of.Given as goal

abbrev pub invariant-loop-cell : goal.invariant-loop-cell
invariant-loop-cell l = IsWithin (value_in l.values) l.from l.cell l.span
