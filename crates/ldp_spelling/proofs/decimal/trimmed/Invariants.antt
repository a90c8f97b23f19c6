use Rattle.std.proofs.Common.{◌≡◌, ◌≤◌, length, take}
use Rattle.ldp_decimal.specs.Writing.{without_zeros}
use Rattle.ldp_spelling.proofs.decimal.trimmed.Given as goal

abbrev pub invariant-loop-kept : goal.invariant-loop-kept
invariant-loop-kept l = record {
  within : l.kept ≤ length l.digits;
  same : without_zeros (take l.kept l.digits) ≡ without_zeros l.digits;
}

abbrev pub decreases-loop-kept : goal.decreases-loop-kept
decreases-loop-kept l = l.kept
