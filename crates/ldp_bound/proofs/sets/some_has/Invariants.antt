use Rattle.std.proofs.Common.{◌≡◌, false, take}
use Rattle.std.specs.List.{list_any}
use Rattle.ldp_bound.specs.Kept.{has_lists}
use Rattle.ldp_bound.proofs.sets.some_has.Given as goal

abbrev pub invariant-loop-index : goal.invariant-loop-index
invariant-loop-index l = list_any (has_lists l.kind l.south) (take l.index l.grids.families) ≡ false
