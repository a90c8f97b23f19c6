use Rattle.ldp_bound.proofs.Cells.{new_full, new_sound}
use Rattle.ldp_bound.proofs.kept.Kept.new.Goals as goal

pub invariant_of-result-clause-full : goal.invariant_of-result-clause-full
invariant_of-result-clause-full c =
    new_full c.args.grids.now.families c.args.cells.now.cells c.in_ok-kinds.kinds c.len-count.result
    c.in_ok-kinds.ensures c.len-count.ensures.value

pub invariant_of-result-clause-sound : goal.invariant_of-result-clause-sound
invariant_of-result-clause-sound c =
    new_sound c.args.grids.now.families c.in_ok-grids.grids.families c.args.cells.now.cells c.in_ok-kinds.kinds
    c.len-count.result c.args.tolerance
    c.in_ok-grids.ensures.valid c.in_ok-grids.ensures.same c.in_ok-kinds.ensures
    c.len-count.ensures.value c.requires
