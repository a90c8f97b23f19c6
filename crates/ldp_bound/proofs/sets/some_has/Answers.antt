use Rattle.std.proofs.Common.{◌+◌, sym}
use Rattle.ldp_bound.specs.Kept.{has_lists}
use Rattle.ldp_bound.proofs.Families.{passes, none_more}
use Rattle.ldp_bound.proofs.sets.some_has.Goals as goal

pub returns-then-has_lists : goal.returns-then-has_lists
returns-then-has_lists c =
    sym
    (passes (has_lists c.args.kind c.args.south) c.args.grids.now.families
    (c.loop-index.index + 1) c.family.result.now c.family.ensures.value
    (sym c.if-has_lists.ensures))

pub loop-index-preserved : goal.loop-index-preserved
loop-index-preserved c =
    none_more (has_lists c.args.kind c.args.south) c.args.grids.now.families c.loop-index.index
    c.family.result.now c.family.ensures.value
    (sym c.if-has_lists.ensures) c.loop-index.invariant
