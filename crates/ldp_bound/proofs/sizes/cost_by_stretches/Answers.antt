use Rattle.std.proofs.Common.{refl, arith}
use Rattle.ldp_bound.specs.Kept.{kept_delta}
use Rattle.ldp_bound.specs.Sweeps.{front}
use Rattle.ldp_bound.proofs.Loops.{unusable_at}
use Rattle.ldp_bound.proofs.Sweeps.{same_sizes, swept_sizes}
use Rattle.ldp_bound.proofs.sizes.cost_by_stretches.Goals as goal

pub returns-clause-value : goal.returns-clause-value
returns-clause-value c =
    let p = c.in-Some.stretched.now in
    swept_sizes (kept_delta c.args.kept.now.grids.families c.args.kept.now.kinds c.args.d.now) p
    c.new-sweep.result.cells c.new-sweep.result.design (front p c.begun.new.inputs)
    c.new-sweep.result.count c.args.kept.now.count c.args.kept.now.tolerance c.swept-told.result
    c.swept-told.ensures.value c.new-sweep.ensures.cells c.new-sweep.ensures.count
    c.new-sweep.ensures.design
    (same_sizes c.args.kept.now.grids.families c.args.kept.now.kinds c.args.d.now p p c.begun.new.inputs
    c.in-Some.ensures.tells refl)

pub returns-in_default-clause-value : goal.returns-in_default-clause-value
returns-in_default-clause-value c =
    unusable_at c.args.kept.now.tolerance
    (kept_delta c.args.kept.now.grids.families c.args.kept.now.kinds c.args.d.now) c.args.kept.now.count
    0
    c.args.kept.now.sound.some_cell (λ k h. absurd (omega (arith, h))) (c.in_default.ensures.none 0)
