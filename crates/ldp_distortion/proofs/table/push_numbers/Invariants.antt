use Rattle.std.proofs.Common.{◌≡◌, ◌++◌, take}
use Rattle.ldp_distortion.specs.Inputs.{numbers}
use Rattle.ldp_distortion.proofs.table.push_numbers.Given as goal

abbrev pub invariant-loop-value : goal.invariant-loop-value
invariant-loop-value l = l.list.items ≡ l.fn.list.items ++ numbers (take l.value-index l.values)
