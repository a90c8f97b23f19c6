use Rattle.std.proofs.Common.{refl}
use Rattle.ldp_bound.specs.Kept.{kept_lower}
use Rattle.ldp_bound.specs.Sweeps.{front}
use Rattle.ldp_bound.proofs.Loops.{all_zero}
use Rattle.ldp_bound.proofs.Sweeps.{same_lows, swept_lows}
use Rattle.ldp_bound.proofs.lows.lows_by_stretches.Goals as goal

pub returns-in_default-clause-value : goal.returns-in_default-clause-value
returns-in_default-clause-value c =
    all_zero (kept_lower c.args.kept.now.grids.families c.args.kept.now.kinds c.args.b.now)
    c.args.kept.now.tolerance c.none.result
    c.args.kept.now.count (c.none.ensures.value c.args.kept.now.tolerance) c.none.ensures.zero
    c.in_default.ensures.none

pub returns-clause-value : goal.returns-clause-value
returns-clause-value c =
    let p = c.in-Some.stretched.now in
    swept_lows (kept_lower c.args.kept.now.grids.families c.args.kept.now.kinds c.args.b.now) p
    c.new-sweep.result.cells c.new-sweep.result.design (front p c.begun.new.inputs)
    c.new-sweep.result.count c.args.kept.now.count c.args.kept.now.tolerance c.swept-told.result
    c.swept-told.ensures.value c.new-sweep.ensures.cells c.new-sweep.ensures.count
    c.new-sweep.ensures.design
    (same_lows c.args.kept.now.grids.families c.args.kept.now.kinds c.args.b.now p p c.begun.new.inputs
    c.in-Some.ensures.tells refl)
