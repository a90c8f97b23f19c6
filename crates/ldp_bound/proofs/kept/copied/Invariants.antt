use Rattle.std.proofs.Common.{◌≡◌, take}
use Rattle.ldp_bound.proofs.kept.copied.Given as goal

abbrev pub invariant-loop-index : goal.invariant-loop-index
invariant-loop-index l = l.copy.families ≡ take l.index l.grids.families
